use Rattle.std.proofs.Common.{◌≡◌, ◌++◌, List, false, drop}
use Rattle.inform_lexemes.specs.Lexemes.{Lexeme}
use Rattle.inform_lexer.specs.Written.{text_of}
use Rattle.inform_printer.specs.StatementLexemes.{choices_lexemes}
use Rattle.inform_printer.proofs.items.put_choices.Given as goal

abbrev pub invariant-loop-choice : goal.invariant-loop-choice
invariant-loop-choice l =
    (rest : List Lexeme) → l.out.items ++ text_of
    (choices_lexemes l.later (drop l.choice-index l.choices) rest)
    ≡ l.fn.out.items ++ text_of (choices_lexemes false l.choices rest)
