-- The tokens of a source: how each is spelled, and how they are read from left to right.
use Rattle.std.specs.Prelude.{ℕ, ◌≡◌, ◌+◌, ◌≤◌, ◌<◌, ◌==◌, ◌||◌, ◌&&◌, nat_le, not, Bool, true, false, if◌then◌else◌, List, [], ◌∷◌, take, drop, ℤ, Result, Ok, Err}
use Rattle.std.specs.List.{prefix_len}
use Rattle.std.specs.Char.{is_ascii_digit, is_ascii_alphabetic, is_ascii_alphanumeric}
use Rattle.adv_io.specs.Text.{is_whitespace}
use Rattle.adv_text.specs.Spelling.{Number, BigNumber, Quoted, Opened, Unclosed, Overlong}
use Rattle.adv_text.specs.Reading.{Input, input, SameEnd, number_at, quoted_at}
use Rattle.adv_text.specs.Reading.{Fault as TextFault}
use Rattle.adv_text.specs.Reading.{long_string as too_long}
use Rattle.source_reader.specs.declared.tokens.Token.{Token}
use Rattle.source_reader.specs.declared.tokens.Token.TheVariants as token
use Rattle.source_reader.specs.Faults.{Fault, unexpected, big_number, open_string, long_string, long_name}

-- ---- what stands between tokens

-- a comment ends before a line feed or a return
abbrev pub ends_comment : ℕ → Bool
ends_comment b = b == 10 || b == 13

-- how many bytes of whitespace and comments stand first, inside a comment or not; `#` (35) begins
-- one
abbrev pub gap : Bool → List ℕ → ℕ
gap commented [] = 0
gap true (b ∷ bytes) = 1 + gap (not (ends_comment b)) bytes
gap false (b ∷ bytes) =
    if b == 35 then 1 + gap true bytes else if is_whitespace b then 1 + gap false bytes else 0

-- the input after them
abbrev pub past_gap : Input → Input
past_gap s = input (s.at + gap false s.rest) (drop (gap false s.rest) s.rest)

-- ---- what kind of token stands first

pub data Kind : Type 0 where
  nothing : Kind
  digits : Kind
  quote : Kind
  letter : Kind
  other : Kind

abbrev pub begins_digit : List ℕ → Bool
begins_digit [] = false
begins_digit (b ∷ bytes) = is_ascii_digit b

-- a number begins with a digit, or with a sign and a digit
abbrev pub begins_number : ℕ → List ℕ → Bool
begins_number b bytes = is_ascii_digit b || ((b == 43 || b == 45) && begins_digit bytes)

abbrev pub kind_of : List ℕ → Kind
kind_of [] = nothing
kind_of (b ∷ bytes) =
    if begins_number b bytes then digits else if b == 34 then quote
    else if is_ascii_alphabetic b then letter else other

-- a word goes on with letters, digits and underscores (95)
abbrev pub is_word_byte : ℕ → Bool
is_word_byte b = is_ascii_alphanumeric b || b == 95

abbrev pub word_size : List ℕ → ℕ
word_size bytes = prefix_len is_word_byte bytes

abbrev pub first_byte : List ℕ → ℕ
first_byte [] = 0
first_byte (b ∷ bytes) = b

-- ---- spelling

-- the bytes begin with a spelling of the token, and then the rest follows
abbrev pub Spells : Token → List ℕ → List ℕ → Type 0
Spells (token.Number z) bytes rest = (kind_of bytes ≡ digits) × Number z bytes rest
Spells (token.Quoted text) bytes rest = (kind_of bytes ≡ quote) × Quoted text bytes rest
Spells (token.Word word) bytes rest =
    (kind_of bytes ≡ letter) × (word_size bytes ≤ 32) × (word ≡ take (word_size bytes) bytes)
    × (rest ≡ drop (word_size bytes) bytes)
Spells (token.Mark b) bytes rest =
    (kind_of bytes ≡ other) × (b ≡ first_byte bytes) × (rest ≡ drop 1 bytes)
Spells token.End bytes rest = (kind_of bytes ≡ nothing) × (rest ≡ bytes)

-- a token is spelled from an input to another
abbrev pub TokenTo : Input → Token → Input → Type 0
TokenTo s t after = Spells t s.rest after.rest × SameEnd s after

-- why no token begins the input: a number or a word that is too long, or a string that isn't closed
-- or is too long
abbrev pub TokenFault : Input → Fault → Type 0
TokenFault s (unexpected place) = ⊥
TokenFault s (big_number place) = (kind_of s.rest ≡ digits) × BigNumber s.rest × (place ≡ s.at)
TokenFault s (open_string place) =
    (kind_of s.rest ≡ quote) × Opened Unclosed s.rest × (place ≡ s.at)
TokenFault s (long_string place) =
    (kind_of s.rest ≡ quote) × Opened Overlong s.rest × (place ≡ s.at)
TokenFault s (long_name place) =
    (kind_of s.rest ≡ letter) × (32 < word_size s.rest) × (place ≡ s.at)

-- ---- reading

-- where a digit stands, or a sign and a digit, a number is refused for its size alone
abbrev pub number_token : ℕ → Result (ℤ × Input) TextFault → Result (Token × Input) Fault
number_token at (Ok x) = Ok (token.Number x.0, x.1)
number_token at (Err fault) = Err (big_number at)

abbrev pub string_fault : ℕ → TextFault → Fault
string_fault at (too_long place) = long_string at
string_fault at _ = open_string at

-- where a quote stands, a string is refused because it isn't closed, or for its size
abbrev pub quoted_token : ℕ → Result (List ℕ × Input) TextFault → Result (Token × Input) Fault
quoted_token at (Ok x) = Ok (token.Quoted x.0, x.1)
quoted_token at (Err fault) = Err (string_fault at fault)

abbrev pub word_token : ℕ → Input → Result (Token × Input) Fault
word_token size s =
    if nat_le size 32
    then Ok (token.Word (take size s.rest), input (s.at + size) (drop size s.rest))
    else Err (long_name s.at)

abbrev pub token_of : Kind → Input → Result (Token × Input) Fault
token_of nothing s = Ok (token.End, s)
token_of digits s = number_token s.at (number_at s)
token_of quote s = quoted_token s.at (quoted_at s)
token_of letter s = word_token (word_size s.rest) s
token_of other s = Ok (token.Mark (first_byte s.rest), input (s.at + 1) (drop 1 s.rest))

-- the token at an input, and the input after it
unfoldable pub token_at : Input → Result (Token × Input) Fault
token_at s = token_of (kind_of s.rest) s
