-- The first fault of a text that has no program.
use Rattle.std.specs.Prelude.{ℕ, ◌≡◌, ◌-◌, List, [], ◌∷◌, drop, length, Err}
use Rattle.inform_lexemes.specs.Lexemes.{Lexeme}
use Rattle.inform_lexer.specs.declared.faults.LexFault.{LexFault}
use Rattle.inform_lexer.specs.declared.kinds.Token.{Token}
use Rattle.inform_lexer.specs.Tokens.{Spelled, Faulty}
use Rattle.inform_lexer.specs.Spans.{lexemes}
use Rattle.inform_grammar.specs.Faults.{FaultKind, fault}
use Rattle.inform_grammar.specs.Rule.{program}
use Rattle.inform_grammar.specs.Reading.{reads, within_limit}

pub data TextFault : Type 0 where
  NoTokens : LexFault → TextFault  -- the bytes have no tokens
  NoSentence : FaultKind → ℕ
      → TextFault  -- the tokens are no sentence: what is wrong, and its place

-- the place of the first of these tokens, and the end of the text where there is none
abbrev pub place_of : List ℕ → List Token → ℕ
place_of bytes [] = length bytes
place_of bytes (t ∷ tokens) = t.start

-- the tokens of a text that are left where as many lexemes are
abbrev pub left : List Token → List Lexeme → List Token
left tokens rest = drop (length tokens - length rest) tokens

-- the bytes have tokens, and what they say has this first fault
pub record Refused (bytes : List ℕ) (kind : FaultKind) (place : ℕ) : Type 0 where
  pub tokens : List Token
  pub rest : List Lexeme
  pub spelled : Spelled bytes tokens
  pub read : reads within_limit (lexemes bytes tokens) program 0 ≡ Err (fault kind rest)
  pub stands : place ≡ place_of bytes (left tokens rest)

-- this is the first fault of a text: of its tokens, or else of its grammar
abbrev pub FaultyText : List ℕ → TextFault → Type 0
FaultyText bytes (NoTokens f) = Faulty bytes f
FaultyText bytes (NoSentence kind place) = Refused bytes kind place
