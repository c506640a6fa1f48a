-- A token is as long as possible: which bytes are a token of each kind, whatever stands after them.
use Rattle.std.specs.Prelude.{ℕ, ◌≡◌, ◌==◌, ◌&&◌, ◌+◌, ◌-◌, ◌≤◌, ◌<◌, Bool, false, if◌then◌else◌, List, [], ◌∷◌, take, drop, length, is_some}
use Rattle.std.specs.List.{prefix_len, list_all, AllByRecursion}
use Rattle.inform_tree.specs.Words.{is_character}
use Rattle.inform_lexemes.specs.Symbols.{symbol_spelled}
use Rattle.inform_lexer.specs.declared.kinds.Kind.{Kind}
use Rattle.inform_lexer.specs.declared.kinds.Kind.TheVariants.{Word, Number, Character, Quoted, Symbol}
use Rattle.inform_lexer.specs.declared.kinds.Token.{Token}
use Rattle.inform_lexer.specs.Bytes.{begins_word, is_word_byte, is_digit_in, is_inside}
use Rattle.inform_lexer.specs.Tokens.{Spelled}

-- ---- each kind

-- a letter or an underscore, and further ones and digits
abbrev pub is_word_text : List ℕ → Bool
is_word_text [] = false
is_word_text (b ∷ bytes) = begins_word b && list_all is_word_byte bytes

-- at least one digit, and nothing else
abbrev pub are_digits : ℕ → List ℕ → Bool
are_digits base [] = false
are_digits base (b ∷ bytes) = is_digit_in base b && list_all (is_digit_in base) bytes

-- after a first dollar sign (36): binary digits after a second one, or else hexadecimal digits
abbrev pub are_dollar_digits : List ℕ → Bool
are_dollar_digits [] = false
are_dollar_digits (b ∷ bytes) = if b == 36 then are_digits 2 bytes else are_digits 16 (b ∷ bytes)

abbrev pub is_number_text : List ℕ → Bool
is_number_text [] = false
is_number_text (b ∷ bytes) = if b == 36 then are_dollar_digits bytes else are_digits 10 (b ∷ bytes)

-- a character between two apostrophes (39)
abbrev pub is_character_text : List ℕ → Bool
is_character_text (a ∷ b ∷ c ∷ []) = a == 39 && (is_character b && c == 39)
is_character_text _ = false

-- a quote (34), and the first quote after it, which is the last byte
abbrev pub is_quoted_text : List ℕ → Bool
is_quoted_text [] = false
is_quoted_text (b ∷ bytes) = b == 34 && prefix_len is_inside bytes + 1 == length bytes

abbrev pub is_text_of : Kind → List ℕ → Bool
is_text_of Word bytes = is_word_text bytes
is_text_of Number bytes = is_number_text bytes
is_text_of Character bytes = is_character_text bytes
is_text_of Quoted bytes = is_quoted_text bytes
is_text_of Symbol bytes = is_some (symbol_spelled bytes)

-- ---- the law

-- of the bytes from its first one on, no more than its own are a token of any kind
abbrev pub IsLongest : List ℕ → Token → Type 0
IsLongest bytes t = (kind : Kind) (size : ℕ) → t.end - t.start < size
    → t.start + size ≤ length bytes → is_text_of kind (take size (drop t.start bytes)) ≡ false

-- each token of a text is as long as possible
abbrev pub TokensAreLongest : Type 0
TokensAreLongest = (bytes : List ℕ) (tokens : List Token) → Spelled bytes tokens
    → AllByRecursion (IsLongest bytes) tokens
