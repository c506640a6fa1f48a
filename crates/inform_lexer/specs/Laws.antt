-- The laws of tokens.
use Rattle.std.specs.Prelude.{ℕ, ◌≡◌, ◌↔◌, ◌⊎◌, true, List, Ok, Err}
use Rattle.std.specs.List.{list_all}
use Rattle.inform_lexer.specs.declared.kinds.Token.{Token}
use Rattle.inform_lexer.specs.declared.faults.LexFault.{LexFault}
use Rattle.inform_lexemes.specs.Lexemes.{Lexeme}
use Rattle.inform_lexer.specs.Tokens.{Spelled, Faulty, lexed}
use Rattle.inform_lexer.specs.Spans.{lexemes}
use Rattle.inform_lexer.specs.Written.{is_writable, is_read, text_of}

-- tokens are read exactly where they are spelled
abbrev pub TokensAreExact : Type 0
TokensAreExact =
    (bytes : List ℕ) (tokens : List Token) → (lexed bytes ≡ Ok tokens) ↔ Spelled bytes tokens

-- a fault is found exactly where it is the first one
abbrev pub FaultIsExact : Type 0
FaultIsExact = (bytes : List ℕ) (fault : LexFault) → (lexed bytes ≡ Err fault) ↔ Faulty bytes fault

-- bytes have tokens, or a fault
abbrev pub TokensOrFault : Type 0
TokensOrFault =
    (bytes : List ℕ) → ((tokens : List Token) × Spelled bytes tokens)
    ⊎ ((fault : LexFault) × Faulty bytes fault)

-- and never both
abbrev pub NeverBoth : Type 0
NeverBoth =
    (bytes : List ℕ) (tokens : List Token) (fault : LexFault) → Spelled bytes tokens
    → Faulty bytes fault → ⊥

-- bytes have one list of tokens at most
abbrev pub OneTokenList : Type 0
OneTokenList = (bytes : List ℕ) (a b : List Token) → Spelled bytes a → Spelled bytes b → a ≡ b

-- and one first fault at most
abbrev pub OneFault : Type 0
OneFault = (bytes : List ℕ) (a b : LexFault) → Faulty bytes a → Faulty bytes b → a ≡ b

-- ---- the way back

-- a list of lexemes is written as a text of tokens that say just these
abbrev pub TextReadsBack : Type 0
TextReadsBack = (xs : List Lexeme) → list_all is_writable xs ≡ true
    → (tokens : List Token) × Spelled (text_of xs) tokens × (lexemes (text_of xs) tokens ≡ xs)

-- what tokens say has a text, unless it is a reserved word that is none of the grammar
abbrev pub TokensAreWritable : Type 0
TokensAreWritable =
    (bytes : List ℕ) (tokens : List Token) → Spelled bytes tokens
    → list_all is_read (lexemes bytes tokens) ≡ true
