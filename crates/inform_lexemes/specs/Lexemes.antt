-- What a token says to the grammar.
use Rattle.std.specs.Prelude.{ℕ, Bool, true, false, if◌then◌else◌, List, Option, Some, None}
use Rattle.inform_tree.specs.Words.{is_reserved}
use Rattle.inform_lexemes.specs.declared.symbols.Symbol.{Symbol}
use Rattle.inform_lexemes.specs.declared.keywords.Keyword.{Keyword}
use Rattle.inform_lexemes.specs.Symbols.{same_symbol}
use Rattle.inform_lexemes.specs.Keywords.{same_keyword, keyword_spelled}

pub data Lexeme : Type 0 where
  Word : Keyword → Lexeme  -- a word of the grammar
  Reserved : Lexeme  -- any other reserved word, which nothing begins with
  Name : List ℕ → Lexeme  -- in lower case
  Number : ℕ → Lexeme
  Character : ℕ → Lexeme
  Quoted : List ℕ → Lexeme  -- the bytes that a string says
  Sign : Symbol → Lexeme

-- ---- tests

abbrev pub is_sign : Symbol → Lexeme → Bool
is_sign symbol (Sign other) = same_symbol symbol other
is_sign symbol _ = false

abbrev pub is_word : Keyword → Lexeme → Bool
is_word keyword (Word other) = same_keyword keyword other
is_word keyword _ = false

abbrev pub is_name : Lexeme → Bool
is_name (Name name) = true
is_name _ = false

abbrev pub is_number : Lexeme → Bool
is_number (Number n) = true
is_number _ = false

abbrev pub is_character : Lexeme → Bool
is_character (Character byte) = true
is_character _ = false

abbrev pub is_quoted : Lexeme → Bool
is_quoted (Quoted text) = true
is_quoted _ = false

-- ---- the lexeme of a word in lower case

abbrev pub word_or_name : Option Keyword → List ℕ → Lexeme
word_or_name (Some keyword) word = Word keyword
word_or_name None word = if is_reserved word then Reserved else Name word

-- a word of the grammar, another reserved word, or a name
unfoldable pub word_lexeme : List ℕ → Lexeme
word_lexeme word = word_or_name (keyword_spelled word) word
