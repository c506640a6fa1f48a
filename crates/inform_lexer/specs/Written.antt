-- The text of lexemes, which reads back as them.
use Rattle.std.specs.Prelude.{ℕ, ◌==◌, ◌&&◌, ◌||◌, not, Bool, true, false, if◌then◌else◌, List, [], ◌∷◌, ◌++◌, codes}
use Rattle.std.specs.Fmt.{decimal}
use Rattle.inform_tree.specs.Words.{is_number, is_character, is_text}
use Rattle.inform_tree.specs.Words.{is_name as is_name_text}
use Rattle.inform_lexemes.specs.declared.symbols.Symbol.TheVariants.{Semicolon, LeftBrace, RightBrace}
use Rattle.inform_lexemes.specs.declared.keywords.Keyword.{Keyword}
use Rattle.inform_lexemes.specs.declared.keywords.Keyword.TheVariants.{Array, Constant, Global}
use Rattle.inform_lexemes.specs.Symbols.{symbol_text}
use Rattle.inform_lexemes.specs.Keywords.{keyword_text}
use Rattle.inform_lexemes.specs.Lexemes.{Lexeme, Word, Reserved, Name, Number, Character, Quoted, Sign, is_sign}
use Rattle.inform_lexer.specs.Bytes.{is_digit_in, is_plain}

-- ---- strings

-- a space, or a byte that stands for itself; after an escape a digit would belong to it
abbrev pub is_shown : Bool → ℕ → Bool
is_shown escaped b = (is_plain b || b == 32) && not (escaped && is_digit_in 10 b)

abbrev pub escape_text : ℕ → List ℕ
escape_text b = 64 ∷ 64 ∷ decimal b

-- the inside of a string that says these bytes, after an escape or not; `^` is 94, `~` is 126
unfoldable pub string_text : Bool → List ℕ → List ℕ
string_text escaped [] = []
string_text escaped (b ∷ text) =
    if b == 10 then 94 ∷ string_text false text else
    if b == 34 then 126 ∷ string_text false text else
    if is_shown escaped b then b ∷ string_text false text else escape_text b
    ++ string_text true text

-- ---- lexemes

-- the words that begin a directive keep their capital
abbrev pub written_word : Keyword → List ℕ
written_word Array = codes "Array"
written_word Constant = codes "Constant"
written_word Global = codes "Global"
written_word keyword = keyword_text keyword

unfoldable pub written : Lexeme → List ℕ
written (Word keyword) = written_word keyword
written Reserved = []
written (Name name) = name
written (Number n) = decimal n
written (Character byte) = 39 ∷ byte ∷ 39 ∷ []
written (Quoted text) = 34 ∷ (string_text false text ++ 34 ∷ [])
written (Sign symbol) = symbol_text symbol

-- which lexemes have a text
abbrev pub is_writable : Lexeme → Bool
is_writable (Word keyword) = true
is_writable Reserved = false
is_writable (Name name) = is_name_text name
is_writable (Number n) = is_number n
is_writable (Character byte) = is_character byte
is_writable (Quoted text) = is_text text
is_writable (Sign symbol) = true

-- which lexemes a token can say
abbrev pub is_read : Lexeme → Bool
is_read Reserved = true
is_read x = is_writable x

-- a line ends after `;` and after a brace
abbrev pub ends_line : Lexeme → Bool
ends_line x = is_sign Semicolon x || (is_sign LeftBrace x || is_sign RightBrace x)

-- the byte after a lexeme: a line feed, or a space
abbrev pub gap_after : Lexeme → ℕ
gap_after x = if ends_line x then 10 else 32

-- each lexeme, and the byte after it
unfoldable pub text_of : List Lexeme → List ℕ
text_of [] = []
text_of (x ∷ xs) = written x ++ gap_after x ∷ text_of xs
