use Rattle.std.proofs.Common.{◌≡◌, ◌++◌, List, drop}
use Rattle.inform_lexemes.specs.Lexemes.{Lexeme}
use Rattle.inform_lexer.specs.Written.{text_of}
use Rattle.inform_printer.specs.ProgramLexemes.{entries_lexemes}
use Rattle.inform_printer.proofs.directives.put_entries.Given as goal

abbrev pub invariant-loop-entry : goal.invariant-loop-entry
invariant-loop-entry l =
    (rest : List Lexeme) → l.out.items ++ text_of
    (entries_lexemes (drop l.entry-index l.entries) rest)
    ≡ l.fn.out.items ++ text_of (entries_lexemes l.entries rest)
