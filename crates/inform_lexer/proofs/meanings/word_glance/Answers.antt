use Rattle.std.proofs.Common.{ap, sym}
use Rattle.inform_lexer.specs.Spans.{word_said, glance_of}
use Rattle.inform_lexer.proofs.Names.{unseen_word}
use Rattle.inform_lexer.proofs.meanings.word_glance.Goals as goal

pub returns-else-looks_reserved : goal.returns-else-looks_reserved
returns-else-looks_reserved c =
    ap glance_of (sym (unseen_word (word_said c.args.word.now) c.looks_reserved.result c.looks_reserved.ensures c.if-looks_reserved.false))
