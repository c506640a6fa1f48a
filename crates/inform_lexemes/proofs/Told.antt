-- A symbol and a word of the grammar are known by their numbers.
use Rattle.std.proofs.Common.{◌≡◌, ℕ, Some, ◌∙◌, sym, ap, refl, eqb-true}
use Rattle.std.specs.Prelude.{slice_get}
use Rattle.inform_lexemes.specs.declared.symbols.Symbol.{Symbol}
use Rattle.inform_lexemes.specs.declared.symbols.Symbol.TheVariants as s
use Rattle.inform_lexemes.specs.declared.symbols.TheConstants.{SYMBOLS}
use Rattle.inform_lexemes.specs.declared.keywords.Keyword.{Keyword}
use Rattle.inform_lexemes.specs.declared.keywords.Keyword.TheVariants as k
use Rattle.inform_lexemes.specs.declared.keywords.TheConstants.{KEYWORDS}
use Rattle.inform_lexemes.specs.Symbols.{symbol_number}
use Rattle.inform_lexemes.specs.Keywords.{keyword_number}
use Rattle.inform_lexemes.specs.Lexemes.{Word, Reserved, Name, Number, Character, Quoted, Sign}
use Rattle.inform_lexemes.specs.Laws.{SymbolsTold, KeywordsTold}

-- the symbols stand in the order of their numbers
symbol_at : (x : Symbol) → slice_get SYMBOLS (symbol_number x) ≡ Some x
symbol_at s.Semicolon = refl
symbol_at s.Comma = refl
symbol_at s.Colon = refl
symbol_at s.LeftRound = refl
symbol_at s.RightRound = refl
symbol_at s.LeftBrace = refl
symbol_at s.RightBrace = refl
symbol_at s.LeftSquare = refl
symbol_at s.RightSquare = refl
symbol_at s.Assign = refl
symbol_at s.Equal = refl
symbol_at s.NotEqual = refl
symbol_at s.Less = refl
symbol_at s.Greater = refl
symbol_at s.LessEqual = refl
symbol_at s.GreaterEqual = refl
symbol_at s.And = refl
symbol_at s.Or = refl
symbol_at s.Not = refl
symbol_at s.Plus = refl
symbol_at s.Minus = refl
symbol_at s.Times = refl
symbol_at s.Divide = refl
symbol_at s.Remainder = refl
symbol_at s.ByteArrow = refl
symbol_at s.WordArrow = refl
symbol_at s.Increment = refl
symbol_at s.Decrement = refl

same_symbol_numbers : (a b : Symbol) → symbol_number a ≡ symbol_number b → a ≡ b
same_symbol_numbers a b e =
    let same : Some a ≡ Some b = sym (symbol_at a) ∙ ap (λ (n : ℕ). slice_get SYMBOLS n) e ∙ symbol_at b in cc

pub symbols_told : SymbolsTold
symbols_told a (Word x) e = cc
symbols_told a Reserved e = cc
symbols_told a (Name x) e = cc
symbols_told a (Number x) e = cc
symbols_told a (Character x) e = cc
symbols_told a (Quoted x) e = cc
symbols_told a (Sign x) e = ap Sign (sym (same_symbol_numbers a x (eqb-true (symbol_number a) (symbol_number x) e)))

-- and so do the words of the grammar
keyword_at : (x : Keyword) → slice_get KEYWORDS (keyword_number x) ≡ Some x
keyword_at k.Array = refl
keyword_at k.Break = refl
keyword_at k.Char = refl
keyword_at k.Constant = refl
keyword_at k.Continue = refl
keyword_at k.Default = refl
keyword_at k.Do = refl
keyword_at k.Else = refl
keyword_at k.For = refl
keyword_at k.Global = refl
keyword_at k.If = refl
keyword_at k.NewLine = refl
keyword_at k.Print = refl
keyword_at k.Quit = refl
keyword_at k.Random = refl
keyword_at k.Read = refl
keyword_at k.Return = refl
keyword_at k.Rfalse = refl
keyword_at k.Rtrue = refl
keyword_at k.Switch = refl
keyword_at k.To = refl
keyword_at k.Until = refl
keyword_at k.While = refl

same_keyword_numbers : (a b : Keyword) → keyword_number a ≡ keyword_number b → a ≡ b
same_keyword_numbers a b e =
    let same : Some a ≡ Some b = sym (keyword_at a) ∙ ap (λ (n : ℕ). slice_get KEYWORDS n) e ∙ keyword_at b in cc

pub keywords_told : KeywordsTold
keywords_told a (Word x) e = ap Word (sym (same_keyword_numbers a x (eqb-true (keyword_number a) (keyword_number x) e)))
keywords_told a Reserved e = cc
keywords_told a (Name x) e = cc
keywords_told a (Number x) e = cc
keywords_told a (Character x) e = cc
keywords_told a (Quoted x) e = cc
keywords_told a (Sign x) e = cc
