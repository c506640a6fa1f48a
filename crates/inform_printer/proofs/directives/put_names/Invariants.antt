use Rattle.std.proofs.Common.{◌≡◌, ◌++◌, List, drop}
use Rattle.inform_lexemes.specs.Lexemes.{Lexeme}
use Rattle.inform_lexer.specs.Written.{text_of}
use Rattle.inform_printer.specs.ProgramLexemes.{names_lexemes}
use Rattle.inform_printer.proofs.directives.put_names.Given as goal

abbrev pub invariant-loop-name : goal.invariant-loop-name
invariant-loop-name l =
    (rest : List Lexeme) → l.out.items ++ text_of (names_lexemes (drop l.name-index l.names) rest)
    ≡ l.fn.out.items ++ text_of (names_lexemes l.names rest)
