-- The laws of lexemes.
use Rattle.std.specs.Prelude.{ℕ, ◌≡◌, true, List, [], ◌∷◌, codes, map}
use Rattle.inform_lexemes.specs.declared.symbols.Symbol.{Symbol}
use Rattle.inform_lexemes.specs.declared.keywords.Keyword.{Keyword}
use Rattle.inform_lexemes.specs.declared.symbols.TheConstants.{SYMBOLS}
use Rattle.inform_lexemes.specs.declared.keywords.TheConstants.{KEYWORDS}
use Rattle.inform_lexemes.specs.Symbols.{symbol_text}
use Rattle.inform_lexemes.specs.Keywords.{keyword_text}
use Rattle.inform_lexemes.specs.Lexemes.{Lexeme, Word, Sign, is_sign, is_word}

-- what passes the test for a symbol is it
abbrev pub SymbolsTold : Type 0
SymbolsTold = (symbol : Symbol) (x : Lexeme) → is_sign symbol x ≡ true → x ≡ Sign symbol

-- what passes the test for a word of the grammar is it
abbrev pub KeywordsTold : Type 0
KeywordsTold = (keyword : Keyword) (x : Lexeme) → is_word keyword x ≡ true → x ≡ Word keyword

-- ---- the tables that the definitions read

-- the symbols of the profile, as they are written
abbrev pub symbol_texts : List (List ℕ)
symbol_texts =
    codes ";" ∷ codes "," ∷ codes ":" ∷ codes "(" ∷ codes ")" ∷ codes "{" ∷ codes "}" ∷
    codes "[" ∷ codes "]" ∷ codes "=" ∷ codes "==" ∷ codes "~=" ∷ codes "<" ∷ codes ">" ∷
    codes "<=" ∷ codes ">=" ∷ codes "&&" ∷ codes "||" ∷ codes "~~" ∷ codes "+" ∷ codes "-" ∷
    codes "*" ∷ codes "/" ∷ codes "%" ∷ codes "->" ∷ codes "-->" ∷ codes "++" ∷ codes "--" ∷ []

-- the words of the grammar, as they are written
abbrev pub keyword_texts : List (List ℕ)
keyword_texts =
    codes "array" ∷ codes "break" ∷ codes "char" ∷ codes "constant" ∷ codes "continue" ∷
    codes "default" ∷ codes "do" ∷ codes "else" ∷ codes "for" ∷ codes "global" ∷ codes "if" ∷
    codes "new_line" ∷ codes "print" ∷ codes "quit" ∷ codes "random" ∷ codes "read" ∷
    codes "return" ∷ codes "rfalse" ∷ codes "rtrue" ∷ codes "switch" ∷ codes "to" ∷
    codes "until" ∷ codes "while" ∷ []

-- these are the symbols, and no others
abbrev pub SymbolsListed : Type 0
SymbolsListed = map symbol_text SYMBOLS ≡ symbol_texts

-- these are the words of the grammar, and no others
abbrev pub KeywordsListed : Type 0
KeywordsListed = map keyword_text KEYWORDS ≡ keyword_texts
