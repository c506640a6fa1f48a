use Rattle.std.proofs.Common.{ap, sym, ◌∙◌}
use Rattle.inform_lexemes.specs.Lexemes.{word_lexeme, word_or_name}
use Rattle.inform_lexer.specs.Spans.{word_said, glance_of}
use Rattle.inform_lexer.proofs.Names.{spelled_says}
use Rattle.inform_lexer.proofs.meanings.reserved_glance.Goals as goal

pub returns-in-Some : goal.returns-in-Some
unfolding word_lexeme
returns-in-Some c =
    let word = c.args.word.now in
    ap (λ found. glance_of (word_or_name found (word_said word)))
    (sym (spelled_says word c.in-Some.keyword (sym c.keyword_of.ensures ∙ c.in-Some.is)))
