-- What is seen of lexemes at a glance.
use Rattle.std.specs.Prelude.{ℕ, suc, Bool, true, false, if◌then◌else◌, List, [], ◌∷◌, Option, Some, None}
use Rattle.inform_lexemes.specs.declared.symbols.Symbol.TheVariants.{LeftRound, RightRound, LeftBrace, RightBrace}
use Rattle.inform_lexemes.specs.declared.keywords.Keyword.TheVariants.{If, While, Do, For}
use Rattle.inform_lexemes.specs.Lexemes.{Lexeme}
use Rattle.inform_lexer.specs.declared.glances.Glance.{Glance}
use Rattle.inform_lexer.specs.declared.glances.Glance.TheVariants.{Word, Symbol}
use Rattle.inform_lexer.specs.Spans.{glance_of}
use Rattle.inform_grammar.specs.Lexemes.{one_less}
use Rattle.inform_grammar.specs.Reading.{within_limit}

-- of the first of these
abbrev pub first_glance : List Lexeme → Option Glance
first_glance [] = None
first_glance (x ∷ xs) = Some (glance_of x)

-- whether such a lexeme is an opener
abbrev pub opens : Glance → Bool
opens (Symbol LeftRound) = true
opens (Symbol LeftBrace) = true
opens (Word If) = true
opens (Word While) = true
opens (Word Do) = true
opens (Word For) = true
opens _ = false

-- and a closer
abbrev pub closes : Glance → Bool
closes (Symbol RightRound) = true
closes (Symbol RightBrace) = true
closes _ = false

-- how many are open after such a lexeme, if there is room for it
abbrev pub opened_within : Glance → ℕ → Option ℕ
opened_within x n =
    if opens x then (if within_limit n then Some (suc n) else None)
    else Some (if closes x then one_less n else n)
