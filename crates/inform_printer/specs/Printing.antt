-- The printed text of a program.
use Rattle.std.specs.Prelude.{ℕ, ◌≡◌, List, ◌++◌}
use Rattle.inform_tree.specs.Programs.{DirectiveTree}
use Rattle.inform_lexemes.specs.Lexemes.{Lexeme}
use Rattle.inform_lexer.specs.Written.{text_of}
use Rattle.inform_printer.specs.ProgramLexemes.{program_lexemes}

-- its lexemes as they are written, each with the byte after it
unfoldable pub printed : List DirectiveTree → List ℕ
printed p = text_of (program_lexemes p)

-- the new text is the old one and the text of these lexemes, whatever follows
abbrev pub Prints : (List Lexeme → List Lexeme) → List ℕ → List ℕ → Type 0
Prints lexemes old new = (rest : List Lexeme) → new ++ text_of rest ≡ old ++ text_of (lexemes rest)
