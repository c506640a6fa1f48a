-- What the first byte of a token tells.
use Rattle.std.proofs.Common.{◌≡◌, ℕ, ◌==◌, ◌&&◌, ◌||◌, Bool, true, false, cond, List, [], ◌∷◌, refl, arith}
use Rattle.std.proofs.lemmas.Bool.Decides.{nat_tests}
use Rattle.std.specs.Char.{is_ascii_digit}
use Rattle.adv_io.specs.Text.{is_whitespace}
use Rattle.adv_text.specs.Spelling.{AfterWhitespace, here, space, NoDigit, NoNumber, NoString}
use Rattle.source_reader.specs.Tokens.{digits, quote, letter, other, begins_digit, begins_number, kind_of}

-- ---- the kind of what begins with a byte

digits_test : (a b c : Bool) → cond a digits (cond b quote (cond c letter other)) ≡ digits → a ≡ true
digits_test true b c e = refl
digits_test false true c e = absurd (cc)
digits_test false false true e = absurd (cc)
digits_test false false false e = absurd (cc)

quote_test : (a b c : Bool) → cond a digits (cond b quote (cond c letter other)) ≡ quote → b ≡ true
quote_test true b c e = absurd (cc)
quote_test false true c e = refl
quote_test false false true e = absurd (cc)
quote_test false false false e = absurd (cc)

abbrev pub FirstByte : List ℕ → (ℕ → List ℕ → Type 0) → Type 0
FirstByte [] P = ⊥
FirstByte (b ∷ bytes) P = P b bytes

pub digits_first : (bytes : List ℕ) → kind_of bytes ≡ digits → FirstByte bytes (λ b more. begins_number b more ≡ true)
digits_first [] e = absurd (cc)
digits_first (b ∷ bytes) e = digits_test (begins_number b bytes) _ _ e

pub quote_first : (bytes : List ℕ) → kind_of bytes ≡ quote → FirstByte bytes (λ b more. (b == 34) ≡ true)
quote_first [] e = absurd (cc)
quote_first (b ∷ bytes) e = quote_test _ (b == 34) _ e

-- ---- it is no blank

number_not_blank : (b : ℕ) (digit : Bool) → (is_ascii_digit b || ((b == 43 || b == 45) && digit)) ≡ true → is_whitespace b ≡ false
number_not_blank b digit e = grind (arith, nat_tests)

quote_not_blank : (b : ℕ) → (b == 34) ≡ true → is_whitespace b ≡ false
quote_not_blank b e = grind (arith, nat_tests)

unblank : (P : List ℕ → Type 0) {k b : ℕ} {bytes : List ℕ} → is_whitespace b ≡ false → AfterWhitespace P k (b ∷ bytes) → (k ≡ 0) × P (b ∷ bytes)
unblank P e (here h) = (refl, h)
unblank P e (space t h) = absurd (cc)

-- nothing stands before the token
pub at_number : (P : List ℕ → Type 0) (k : ℕ) (bytes : List ℕ) → kind_of bytes ≡ digits → AfterWhitespace P k bytes → (k ≡ 0) × P bytes
at_number P k [] e h = absurd (cc)
at_number P k (b ∷ bytes) e h = unblank P (number_not_blank b (begins_digit bytes) (digits_first (b ∷ bytes) e)) h

pub at_quote : (P : List ℕ → Type 0) (k : ℕ) (bytes : List ℕ) → kind_of bytes ≡ quote → AfterWhitespace P k bytes → (k ≡ 0) × P bytes
at_quote P k [] e h = absurd (cc)
at_quote P k (b ∷ bytes) e h = unblank P (quote_not_blank b (quote_first (b ∷ bytes) e)) h

-- ---- a number or a string stands there

sign_and_digit : (sign digit : Bool) → (false || (sign && digit)) ≡ true → (sign ≡ true) × (digit ≡ true)
sign_and_digit true true e = (refl, refl)
sign_and_digit true false e = absurd (cc)
sign_and_digit false digit e = absurd (cc)

digit_stands : (bytes : List ℕ) → begins_digit bytes ≡ true → NoDigit bytes → ⊥
digit_stands [] e h = cc
digit_stands (b ∷ bytes) e h = cc

number_stands_by : (b : ℕ) (bytes : List ℕ) (digit : Bool) → is_ascii_digit b ≡ digit
    → (digit || ((b == 43 || b == 45) && begins_digit bytes)) ≡ true → NoNumber (b ∷ bytes) → ⊥
number_stands_by b bytes true is e h = let no : is_ascii_digit b ≡ false = h.1 in cc
number_stands_by b bytes false is e h =
    let both = sign_and_digit (b == 43 || b == 45) (begins_digit bytes) e in digit_stands bytes both.1 (h.2 both.0)

pub number_stands : (bytes : List ℕ) → kind_of bytes ≡ digits → NoNumber bytes → ⊥
number_stands [] e h = cc
number_stands (b ∷ bytes) e h = number_stands_by b bytes (is_ascii_digit b) refl (digits_first (b ∷ bytes) e) h

pub string_stands : (bytes : List ℕ) → kind_of bytes ≡ quote → NoString bytes → ⊥
string_stands [] e h = cc
string_stands (b ∷ bytes) e h = let is : (b == 34) ≡ true = quote_first (b ∷ bytes) e in let no : (b == 34) ≡ false = h.1 in cc
