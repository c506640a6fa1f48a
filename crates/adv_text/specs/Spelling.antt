-- How numbers and strings are spelled: a spelling stands at the beginning of the bytes, and a rest
-- follows it.
use Rattle.std.specs.Prelude.{ℕ, suc, not, ◌≡◌, ◌+◌, ◌-◌, ◌*◌, ◌≤◌, ◌<◌, ◌==◌, ◌||◌, Bool, true, false, IsTrue, IsFalse, List, [], ◌∷◌, length, ℤ, pos, neg_ℤ}
use Rattle.std.specs.Char.{is_ascii_digit}
use Rattle.adv_io.specs.Text.{carriage_return, quote, plus_sign, minus_sign, grave_accent, is_whitespace, text_limit}

-- ---- whitespace

-- after k bytes of whitespace the bytes go on as P says
pub data AfterWhitespace (P : List ℕ → Type 0) : ℕ → List ℕ → Type 0 where
  here : {bytes : List ℕ} → P bytes → AfterWhitespace P 0 bytes
  space : {k b : ℕ} {bytes : List ℕ} → IsTrue (is_whitespace b) → AfterWhitespace P k bytes
      → AfterWhitespace P (suc k) (b ∷ bytes)

-- ---- numbers

-- no digit stands first
abbrev pub NoDigit : List ℕ → Type 0
NoDigit [] = Unit {0}
NoDigit (b ∷ bytes) = IsFalse (is_ascii_digit b)

-- after digits that make n, the digits up to the rest make m of it
pub data Digits : ℕ → ℕ → List ℕ → List ℕ → Type 0 where
  last : {n : ℕ} {rest : List ℕ} → NoDigit rest → Digits n n rest rest
  digit : {n m b : ℕ} {bytes rest : List ℕ} → IsTrue (is_ascii_digit b)
      → Digits (n * 10 + (b - 48)) m bytes rest → Digits n m (b ∷ bytes) rest

-- at least one digit, and all up to the rest make n
abbrev pub Amount : ℕ → List ℕ → List ℕ → Type 0
Amount n [] rest = ⊥
Amount n (b ∷ bytes) rest = IsTrue (is_ascii_digit b) × Digits (b - 48) n bytes rest

-- the digits may have a sign before them: `+`, or `-` for a negative number
pub data Signed : Bool → ℕ → List ℕ → List ℕ → Type 0 where
  bare : {n : ℕ} {bytes rest : List ℕ} → Amount n bytes rest → Signed false n bytes rest
  plus : {n : ℕ} {bytes rest : List ℕ} → Amount n bytes rest
      → Signed false n (plus_sign ∷ bytes) rest
  minus : {n : ℕ} {bytes rest : List ℕ} → Amount n bytes rest
      → Signed true n (minus_sign ∷ bytes) rest

-- the number of an amount, negative or not
abbrev pub signed : Bool → ℕ → ℤ
signed true n = neg_ℤ (pos n)
signed false n = pos n

-- the greatest amount of a number of 32 bits, negative or not
abbrev pub greatest : Bool → ℕ
greatest true = 2147483648
greatest false = 2147483647

-- the bytes begin with a spelling of the number z
pub record BeginsNumber (z : ℤ) (rest bytes : List ℕ) : Type 0 where
  pub negative : Bool
  pub amount : ℕ
  pub spelled : Signed negative amount bytes rest
  pub fits : amount ≤ greatest negative
  pub value : z ≡ signed negative amount

-- after whitespace the bytes begin with a spelling of the number z, and then the rest follows
abbrev pub Number : ℤ → List ℕ → List ℕ → Type 0
Number z bytes rest = (k : ℕ) × AfterWhitespace (BeginsNumber z rest) k bytes

-- neither a byte of whitespace nor a digit stands first, and no digit after a sign that stands
-- first
abbrev pub NoNumber : List ℕ → Type 0
NoNumber [] = Unit {0}
NoNumber (b ∷ bytes) =
    IsFalse (is_whitespace b) × IsFalse (is_ascii_digit b)
    × (IsTrue (b == plus_sign || b == minus_sign) → NoDigit bytes)

-- the bytes begin with a number that 32 bits can't hold
pub record BigNumber (bytes : List ℕ) : Type 0 where
  pub negative : Bool
  pub amount : ℕ
  pub rest : List ℕ
  pub spelled : Signed negative amount bytes rest
  pub exceeds : greatest negative < amount

-- ---- strings

-- a byte of a string that stands for itself: no quote, no return, no grave accent
abbrev pub is_plain : ℕ → Bool
is_plain b = not (b == quote || (b == carriage_return || b == grave_accent))

-- inside a string the bytes up to the rest are kept as the text
pub data Inside : List ℕ → List ℕ → List ℕ → Type 0 where
  here : {rest : List ℕ} → Inside [] rest rest
  plain : {b : ℕ} {text bytes rest : List ℕ} → IsTrue (is_plain b) → Inside text bytes rest
      → Inside (b ∷ text) (b ∷ bytes) rest
  two_quotes : {text bytes rest : List ℕ} → Inside text bytes rest
      → Inside (quote ∷ text) (quote ∷ quote ∷ bytes) rest
  grave : {text bytes rest : List ℕ} → Inside text bytes rest
      → Inside (quote ∷ text) (grave_accent ∷ bytes) rest
  return : {text bytes rest : List ℕ} → Inside text bytes rest
      → Inside text (carriage_return ∷ bytes) rest

-- no quote stands first
abbrev pub NoQuote : List ℕ → Type 0
NoQuote [] = Unit {0}
NoQuote (b ∷ bytes) = IsFalse (b == quote)

-- after an opening quote the bytes go on as P says
abbrev pub Opened : (List ℕ → Type 0) → List ℕ → Type 0
Opened P [] = ⊥
Opened P (b ∷ bytes) = IsTrue (b == quote) × P bytes

-- the text, and a quote that isn't the first of two
pub record Closes (text rest bytes : List ℕ) : Type 0 where
  pub inside : Inside text bytes (quote ∷ rest)
  pub closed : NoQuote rest
  pub short : length text ≤ text_limit

-- after whitespace the bytes begin with a string of the text, and then the rest follows
abbrev pub Quoted : List ℕ → List ℕ → List ℕ → Type 0
Quoted text bytes rest = (k : ℕ) × AfterWhitespace (Opened (Closes text rest)) k bytes

-- neither a byte of whitespace nor a quote stands first
abbrev pub NoString : List ℕ → Type 0
NoString [] = Unit {0}
NoString (b ∷ bytes) = IsFalse (is_whitespace b) × IsFalse (b == quote)

-- the bytes end inside the string, with at most 4,096 kept
pub record Unclosed (bytes : List ℕ) : Type 0 where
  pub text : List ℕ
  pub inside : Inside text bytes []
  pub short : length text ≤ text_limit

-- a 4,097th byte is kept
pub record Overlong (bytes : List ℕ) : Type 0 where
  pub text : List ℕ
  pub rest : List ℕ
  pub inside : Inside text bytes rest
  pub long : length text ≡ 4097
