-- The lexemes with which a program is printed, in their order.
use Rattle.std.specs.Prelude.{ℕ, List, [], ◌∷◌}
use Rattle.inform_tree.specs.declared.values.Const.{Const}
use Rattle.inform_tree.specs.Programs as d
use Rattle.inform_tree.specs.Programs.{DirectiveTree, RoutineTree}
use Rattle.inform_lexemes.specs.declared.symbols.Symbol.TheVariants.{Semicolon, LeftSquare, RightSquare, Assign}
use Rattle.inform_lexemes.specs.declared.keywords.Keyword.TheVariants as w
use Rattle.inform_lexemes.specs.Lexemes.{Lexeme, Word, Name, Sign}
use Rattle.inform_grammar.specs.Lexemes.{arrow}
use Rattle.inform_printer.specs.ValueLexemes.{constant_lexemes, entry_lexemes}
use Rattle.inform_printer.specs.StatementLexemes.{optional_lexemes, statements_lexemes}

abbrev pub names_lexemes : List (List ℕ) → List Lexeme → List Lexeme
names_lexemes [] rest = rest
names_lexemes (name ∷ names) rest = Name name ∷ names_lexemes names rest

abbrev pub entries_lexemes : List Const → List Lexeme → List Lexeme
entries_lexemes [] rest = rest
entries_lexemes (x ∷ xs) rest = entry_lexemes x (entries_lexemes xs rest)

-- the value that a global begins with
abbrev pub first_value_lexemes : Const → List Lexeme → List Lexeme
first_value_lexemes x rest = Sign Assign ∷ constant_lexemes x rest

abbrev pub routine_lexemes : RoutineTree → List Lexeme → List Lexeme
routine_lexemes r rest =
    Sign LeftSquare ∷ Name r.name ∷ names_lexemes r.locals
    (Sign Semicolon ∷ statements_lexemes r.body (Sign RightSquare ∷ Sign Semicolon ∷ rest))

abbrev pub directive_lexemes : DirectiveTree → List Lexeme → List Lexeme
directive_lexemes (d.Constant name x) rest =
    Word w.Constant ∷ Name name ∷ Sign Assign ∷ constant_lexemes x (Sign Semicolon ∷ rest)
directive_lexemes (d.Global name x) rest =
    Word w.Global ∷ Name name ∷ optional_lexemes first_value_lexemes x (Sign Semicolon ∷ rest)
directive_lexemes (d.Array name words entries) rest =
    Word w.Array ∷ Name name ∷ Sign (arrow words) ∷ entries_lexemes entries (Sign Semicolon ∷ rest)
directive_lexemes (d.Routine r) rest = routine_lexemes r rest

abbrev pub program_lexemes : List DirectiveTree → List Lexeme
program_lexemes [] = []
program_lexemes (x ∷ xs) = directive_lexemes x (program_lexemes xs)
