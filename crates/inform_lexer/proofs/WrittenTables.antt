-- A written list of lexemes reads back: each is taken whole, and says itself.
use Rattle.std.proofs.Common.{◌≡◌, ℕ, false, List, [], ◌∷◌, ◌++◌, length, refl}
use Rattle.inform_lexemes.specs.declared.symbols.Symbol.{Symbol}
use Rattle.inform_lexemes.specs.declared.symbols.Symbol.TheVariants as s
use Rattle.inform_lexemes.specs.declared.keywords.Keyword.{Keyword}
use Rattle.inform_lexemes.specs.declared.keywords.Keyword.TheVariants as k
use Rattle.inform_lexemes.specs.Symbols.{symbol_spelled}
use Rattle.inform_lexemes.specs.Keywords.{keyword_spelled}
use Rattle.inform_lexemes.specs.Lexemes.{Lexeme, Word, Reserved, Name, Number, Character, Quoted, Sign, word_lexeme}
use Rattle.inform_lexer.specs.declared.kinds.Kind.{Kind}
use Rattle.inform_lexer.specs.declared.kinds.Kind.TheVariants as kind
use Rattle.inform_lexer.specs.Bytes.{is_blank}
use Rattle.inform_lexer.specs.Tokens.{token, token_step}
use Rattle.inform_lexer.specs.Spans.{lexeme_of}
use Rattle.inform_lexer.specs.Written.{written, gap_after}

abbrev pub kind_of : Lexeme → Kind
kind_of (Word keyword) = kind.Word
kind_of Reserved = kind.Word
kind_of (Name name) = kind.Word
kind_of (Number n) = kind.Number
kind_of (Character byte) = kind.Character
kind_of (Quoted text) = kind.Quoted
kind_of (Sign symbol) = kind.Symbol

-- The bytes of a lexeme: the first is no blank, before the byte after it they are taken whole, and
-- they say the lexeme.
pub record Stands (x : Lexeme) : Type 0 where
  pub head : ℕ
  pub tail : List ℕ
  pub same : written x ≡ head ∷ tail
  pub blank : is_blank head ≡ false
  pub step : (at : ℕ) (rest : List ℕ) → token_step tt at (head ∷ (tail ++ gap_after x ∷ rest)) ≡ token (kind_of x) at (length tail)
  pub says : lexeme_of (kind_of x) (written x) ≡ x

-- ---- symbols

-- each written symbol is taken whole, and says itself
pub sign_stands : (symbol : Symbol) → Stands (Sign symbol)
unfolding written token_step symbol_spelled
sign_stands s.Semicolon = record { head = 59; tail = []; same = refl; blank = refl; step = λ at rest. refl; says = refl }
sign_stands s.Comma = record { head = 44; tail = []; same = refl; blank = refl; step = λ at rest. refl; says = refl }
sign_stands s.Colon = record { head = 58; tail = []; same = refl; blank = refl; step = λ at rest. refl; says = refl }
sign_stands s.LeftRound = record { head = 40; tail = []; same = refl; blank = refl; step = λ at rest. refl; says = refl }
sign_stands s.RightRound = record { head = 41; tail = []; same = refl; blank = refl; step = λ at rest. refl; says = refl }
sign_stands s.LeftBrace = record { head = 123; tail = []; same = refl; blank = refl; step = λ at rest. refl; says = refl }
sign_stands s.RightBrace = record { head = 125; tail = []; same = refl; blank = refl; step = λ at rest. refl; says = refl }
sign_stands s.LeftSquare = record { head = 91; tail = []; same = refl; blank = refl; step = λ at rest. refl; says = refl }
sign_stands s.RightSquare = record { head = 93; tail = []; same = refl; blank = refl; step = λ at rest. refl; says = refl }
sign_stands s.Assign = record { head = 61; tail = []; same = refl; blank = refl; step = λ at rest. refl; says = refl }
sign_stands s.Equal = record { head = 61; tail = 61 ∷ []; same = refl; blank = refl; step = λ at rest. refl; says = refl }
sign_stands s.NotEqual = record { head = 126; tail = 61 ∷ []; same = refl; blank = refl; step = λ at rest. refl; says = refl }
sign_stands s.Less = record { head = 60; tail = []; same = refl; blank = refl; step = λ at rest. refl; says = refl }
sign_stands s.Greater = record { head = 62; tail = []; same = refl; blank = refl; step = λ at rest. refl; says = refl }
sign_stands s.LessEqual = record { head = 60; tail = 61 ∷ []; same = refl; blank = refl; step = λ at rest. refl; says = refl }
sign_stands s.GreaterEqual = record { head = 62; tail = 61 ∷ []; same = refl; blank = refl; step = λ at rest. refl; says = refl }
sign_stands s.And = record { head = 38; tail = 38 ∷ []; same = refl; blank = refl; step = λ at rest. refl; says = refl }
sign_stands s.Or = record { head = 124; tail = 124 ∷ []; same = refl; blank = refl; step = λ at rest. refl; says = refl }
sign_stands s.Not = record { head = 126; tail = 126 ∷ []; same = refl; blank = refl; step = λ at rest. refl; says = refl }
sign_stands s.Plus = record { head = 43; tail = []; same = refl; blank = refl; step = λ at rest. refl; says = refl }
sign_stands s.Minus = record { head = 45; tail = []; same = refl; blank = refl; step = λ at rest. refl; says = refl }
sign_stands s.Times = record { head = 42; tail = []; same = refl; blank = refl; step = λ at rest. refl; says = refl }
sign_stands s.Divide = record { head = 47; tail = []; same = refl; blank = refl; step = λ at rest. refl; says = refl }
sign_stands s.Remainder = record { head = 37; tail = []; same = refl; blank = refl; step = λ at rest. refl; says = refl }
sign_stands s.ByteArrow = record { head = 45; tail = 62 ∷ []; same = refl; blank = refl; step = λ at rest. refl; says = refl }
sign_stands s.WordArrow = record { head = 45; tail = 45 ∷ 62 ∷ []; same = refl; blank = refl; step = λ at rest. refl; says = refl }
sign_stands s.Increment = record { head = 43; tail = 43 ∷ []; same = refl; blank = refl; step = λ at rest. refl; says = refl }
sign_stands s.Decrement = record { head = 45; tail = 45 ∷ []; same = refl; blank = refl; step = λ at rest. refl; says = refl }

-- ---- words of the grammar

-- each written word of the grammar is taken whole, and says itself
pub word_stands : (keyword : Keyword) → Stands (Word keyword)
unfolding written token_step keyword_spelled word_lexeme
word_stands k.Array = record { head = 65; tail = 114 ∷ 114 ∷ 97 ∷ 121 ∷ []; same = refl; blank = refl; step = λ at rest. refl; says = refl }
word_stands k.Break = record { head = 98; tail = 114 ∷ 101 ∷ 97 ∷ 107 ∷ []; same = refl; blank = refl; step = λ at rest. refl; says = refl }
word_stands k.Char = record { head = 99; tail = 104 ∷ 97 ∷ 114 ∷ []; same = refl; blank = refl; step = λ at rest. refl; says = refl }
word_stands k.Constant = record { head = 67; tail = 111 ∷ 110 ∷ 115 ∷ 116 ∷ 97 ∷ 110 ∷ 116 ∷ []; same = refl; blank = refl; step = λ at rest. refl; says = refl }
word_stands k.Continue = record { head = 99; tail = 111 ∷ 110 ∷ 116 ∷ 105 ∷ 110 ∷ 117 ∷ 101 ∷ []; same = refl; blank = refl; step = λ at rest. refl; says = refl }
word_stands k.Default = record { head = 100; tail = 101 ∷ 102 ∷ 97 ∷ 117 ∷ 108 ∷ 116 ∷ []; same = refl; blank = refl; step = λ at rest. refl; says = refl }
word_stands k.Do = record { head = 100; tail = 111 ∷ []; same = refl; blank = refl; step = λ at rest. refl; says = refl }
word_stands k.Else = record { head = 101; tail = 108 ∷ 115 ∷ 101 ∷ []; same = refl; blank = refl; step = λ at rest. refl; says = refl }
word_stands k.For = record { head = 102; tail = 111 ∷ 114 ∷ []; same = refl; blank = refl; step = λ at rest. refl; says = refl }
word_stands k.Global = record { head = 71; tail = 108 ∷ 111 ∷ 98 ∷ 97 ∷ 108 ∷ []; same = refl; blank = refl; step = λ at rest. refl; says = refl }
word_stands k.If = record { head = 105; tail = 102 ∷ []; same = refl; blank = refl; step = λ at rest. refl; says = refl }
word_stands k.NewLine = record { head = 110; tail = 101 ∷ 119 ∷ 95 ∷ 108 ∷ 105 ∷ 110 ∷ 101 ∷ []; same = refl; blank = refl; step = λ at rest. refl; says = refl }
word_stands k.Print = record { head = 112; tail = 114 ∷ 105 ∷ 110 ∷ 116 ∷ []; same = refl; blank = refl; step = λ at rest. refl; says = refl }
word_stands k.Quit = record { head = 113; tail = 117 ∷ 105 ∷ 116 ∷ []; same = refl; blank = refl; step = λ at rest. refl; says = refl }
word_stands k.Random = record { head = 114; tail = 97 ∷ 110 ∷ 100 ∷ 111 ∷ 109 ∷ []; same = refl; blank = refl; step = λ at rest. refl; says = refl }
word_stands k.Read = record { head = 114; tail = 101 ∷ 97 ∷ 100 ∷ []; same = refl; blank = refl; step = λ at rest. refl; says = refl }
word_stands k.Return = record { head = 114; tail = 101 ∷ 116 ∷ 117 ∷ 114 ∷ 110 ∷ []; same = refl; blank = refl; step = λ at rest. refl; says = refl }
word_stands k.Rfalse = record { head = 114; tail = 102 ∷ 97 ∷ 108 ∷ 115 ∷ 101 ∷ []; same = refl; blank = refl; step = λ at rest. refl; says = refl }
word_stands k.Rtrue = record { head = 114; tail = 116 ∷ 114 ∷ 117 ∷ 101 ∷ []; same = refl; blank = refl; step = λ at rest. refl; says = refl }
word_stands k.Switch = record { head = 115; tail = 119 ∷ 105 ∷ 116 ∷ 99 ∷ 104 ∷ []; same = refl; blank = refl; step = λ at rest. refl; says = refl }
word_stands k.To = record { head = 116; tail = 111 ∷ []; same = refl; blank = refl; step = λ at rest. refl; says = refl }
word_stands k.Until = record { head = 117; tail = 110 ∷ 116 ∷ 105 ∷ 108 ∷ []; same = refl; blank = refl; step = λ at rest. refl; says = refl }
word_stands k.While = record { head = 119; tail = 104 ∷ 105 ∷ 108 ∷ 101 ∷ []; same = refl; blank = refl; step = λ at rest. refl; says = refl }
