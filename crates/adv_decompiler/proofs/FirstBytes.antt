-- What the first bytes of a written token tell.
use Rattle.std.proofs.Common.{◌≡◌, ℕ, suc, ◌+◌, ◌≤◌, ◌<◌, ◌^◌, inl, inr, ◌||◌, Bool, true, false, eqb, leb, List, [], ◌∷◌, ◌++◌, length, ℤ, pos, negsuc, refl, ap, ◌∙◌, arith}
use Rattle.std.specs.Prelude.{int_le}
use Rattle.std.specs.List.{list_all, prefix_len}
use Rattle.std.specs.Char.{is_ascii_digit, is_ascii_alphabetic, is_ascii_alphanumeric}
use Rattle.std.specs.Int.{is_in_range}
use Rattle.std.specs.Fmt.{decimal}
use Rattle.std.proofs.lemmas.Bool.{and_parts, and_from, and_left, and_right, or_cases, or_parts, or_from, or_left, or_right, cond-true, cond-false, leb-true, lt-leb, ne_eqb}
use Rattle.std.proofs.lemmas.Int.{ints}
use Rattle.adv_io.specs.Text.{is_whitespace}
use Rattle.adv_text.specs.Writing.{number_text}
use Rattle.scott_types.specs.Limits.{is_number}
use Rattle.source_reader.specs.declared.tokens.Token.{Token}
use Rattle.source_reader.specs.declared.tokens.Token.TheVariants as token
use Rattle.source_reader.specs.Tokens.{gap, digits, letter, other, kind_of, begins_number, begins_digit, is_word_byte, word_size}
use Rattle.adv_decompiler.specs.Layout.{Lead, joined, spaced, below, lead_text, token_text}
use Rattle.adv_decompiler.proofs.Decimals.{is_numeral, decimal-numeral}
use Rattle.adv_decompiler.proofs.Apart.{is_symbol, is_spelled_word, is_written, by_symbol}

-- ---- what follows a token that is no mark: no byte of a word, and no quote

abbrev pub Ends : List ℕ → Type 0
Ends [] = Unit {0}
Ends (b ∷ bytes) = (is_word_byte b ≡ false) × (eqb b 34 ≡ false)

pub ends-size : (bytes : List ℕ) → Ends bytes → word_size bytes ≡ 0
ends-size [] h = refl
ends-size (b ∷ bytes) h = cond-false (is_word_byte b) _ _ h.0

-- no digit stands first
digit-word : (b : ℕ) → is_word_byte b ≡ false → is_ascii_digit b ≡ false
digit-word b h = (or_parts (is_ascii_digit b) _ (or_parts _ _ (or_parts (is_ascii_alphanumeric b) (eqb b 95) h).0).0).0

pub ends-digit : (bytes : List ℕ) → Ends bytes → begins_digit bytes ≡ false
ends-digit [] h = refl
ends-digit (b ∷ bytes) h = digit-word b h.0

-- ---- letters and digits

record IsLetter (b : ℕ) : Type 0 where
  no_digit : is_ascii_digit b ≡ false
  no_plus : eqb b 43 ≡ false
  no_minus : eqb b 45 ≡ false
  no_quote : eqb b 34 ≡ false
  no_hash : eqb b 35 ≡ false
  no_whitespace : is_whitespace b ≡ false

letter-least : (b : ℕ) → is_ascii_alphabetic b ≡ true → 65 ≤ b
letter-least b h =
    elim (or_cases _ _ h) [
      | inl upper ↦ leb-true 65 b (and_parts (leb 65 b) (leb b 90) upper).0
      | inr lower ↦ let least : 97 ≤ b = leb-true 97 b (and_parts (leb 97 b) (leb b 122) lower).0 in omega arith
    ]

letter-is : (b : ℕ) → 65 ≤ b → IsLetter b
letter-is b h = record {
  no_digit = and_right (leb 48 b) (leb b 57) (lt-leb b 57 (omega arith));
  no_plus = ne_eqb b 43 (λ e. omega arith);
  no_minus = ne_eqb b 45 (λ e. omega arith);
  no_quote = ne_eqb b 34 (λ e. omega arith);
  no_hash = ne_eqb b 35 (λ e. omega arith);
  no_whitespace = or_from _ _ (and_right (leb 9 b) (leb b 13) (lt-leb b 13 (omega arith))) (ne_eqb b 32 (λ e. omega arith));
}

letter-word : (b : ℕ) → is_ascii_alphabetic b ≡ true → is_word_byte b ≡ true
letter-word b h =
    elim (or_cases (is_in_range 65 90 b) (is_in_range 97 122 b) h) [
      | inl upper ↦
          or_left (is_ascii_alphanumeric b) (eqb b 95)
          (or_left (is_in_range 48 57 b || is_in_range 65 90 b) (is_in_range 97 122 b) (or_right (is_in_range 48 57 b) (is_in_range 65 90 b) upper))
      | inr lower ↦
          or_left (is_ascii_alphanumeric b) (eqb b 95) (or_right (is_in_range 48 57 b || is_in_range 65 90 b) (is_in_range 97 122 b) lower)
    ]

digit-least : (b : ℕ) → is_ascii_digit b ≡ true → 48 ≤ b
digit-least b h = leb-true 48 b (and_parts (leb 48 b) (leb b 57) h).0

-- ---- no whitespace and no comment stands before a token

abbrev Starts : List ℕ → Type 0
Starts [] = ⊥
Starts (b ∷ bytes) = (eqb b 35 ≡ false) × (is_whitespace b ≡ false)

numeral-starts : (bytes : List ℕ) → is_numeral bytes ≡ true → Starts bytes
numeral-starts [] h = absurd (cc)
numeral-starts (b ∷ bytes) h =
    let least = digit-least b (and_parts (is_ascii_digit b) (list_all is_ascii_digit bytes) h).0 in
    (ne_eqb b 35 (λ e. omega arith), or_from _ _ (and_right (leb 9 b) (leb b 13) (lt-leb b 13 (omega arith))) (ne_eqb b 32 (λ e. omega arith)))

pub number-most : (n : ℕ) → is_number (pos n) ≡ true → n ≤ 2147483647
number-most n h =
    let most : int_le (pos n) (pos 2147483647) ≡ true = (and_parts (int_le (negsuc 2147483647) (pos n)) (int_le (pos n) (pos 2147483647)) h).1 in grind (arith, ints)

pub number-small : (n : ℕ) → is_number (pos n) ≡ true → n < 2 ^ 64
number-small n h =
    let most : int_le (pos n) (pos 2147483647) ≡ true = (and_parts (int_le (negsuc 2147483647) (pos n)) (int_le (pos n) (pos 2147483647)) h).1 in grind (arith, ints)

pub amount-small : (n : ℕ) → is_number (negsuc n) ≡ true → suc n < 2 ^ 64
amount-small n h =
    let least = (and_parts (int_le (negsuc 2147483647) (negsuc n)) (int_le (negsuc n) (pos 2147483647)) h).0 in grind (arith, ints)

starts : (t : Token) → is_written t ≡ true → Starts (token_text t)
starts (token.Number (pos n)) h = numeral-starts (decimal n) (decimal-numeral n (number-small n h))
starts (token.Number (negsuc n)) h = (refl, refl)
starts (token.Quoted text) h = (refl, refl)
starts (token.Word []) h = absurd (cc)
starts (token.Word (b ∷ bytes)) h =
    let is = letter-is b (letter-least b (and_parts (is_ascii_alphabetic b) _ h).0) in (is.no_hash, is.no_whitespace)
starts (token.Mark b) h = by_symbol (λ b. Starts (b ∷ [])) (refl, refl) (refl, refl) (refl, refl) (refl, refl) (refl, refl) (refl, refl) (refl, refl) b h
starts token.End h = absurd (cc)

no_gap : (bytes more : List ℕ) → Starts bytes → gap false (bytes ++ more) ≡ 0
no_gap [] more h = absurd h
no_gap (b ∷ bytes) more h = cond-false (eqb b 35) _ _ h.0 ∙ cond-false (is_whitespace b) _ _ h.1

pub lead-gap : (lead : Lead) (t : Token) (more : List ℕ) → is_written t ≡ true → gap false (lead_text lead ++ (token_text t ++ more)) ≡ length (lead_text lead)
lead-gap joined t more h = no_gap (token_text t) more (starts t h)
lead-gap spaced t more h = ap (λ (n : ℕ). 1 + n) (no_gap (token_text t) more (starts t h))
lead-gap below t more h = ap (λ (n : ℕ). 1 + n) (no_gap (token_text t) more (starts t h))

-- ---- the kind of token

numeral-kind : (bytes more : List ℕ) → is_numeral bytes ≡ true → kind_of (bytes ++ more) ≡ digits
numeral-kind [] more h = absurd (cc)
numeral-kind (b ∷ bytes) more h =
    cond-true (begins_number b (bytes ++ more)) _ _ (or_left _ _ (and_parts (is_ascii_digit b) (list_all is_ascii_digit bytes) h).0)

numeral-digit : (bytes more : List ℕ) → is_numeral bytes ≡ true → begins_digit (bytes ++ more) ≡ true
numeral-digit [] more h = absurd (cc)
numeral-digit (b ∷ bytes) more h = (and_parts (is_ascii_digit b) (list_all is_ascii_digit bytes) h).0

pub number-kind : (z : ℤ) (more : List ℕ) → is_number z ≡ true → kind_of (number_text z ++ more) ≡ digits
number-kind (pos n) more h = numeral-kind (decimal n) more (decimal-numeral n (number-small n h))
number-kind (negsuc n) more h =
    cond-true (begins_number 45 (decimal (suc n) ++ more)) _ _ (numeral-digit (decimal (suc n)) more (decimal-numeral (suc n) (amount-small n h)))

pub word-kind : (word more : List ℕ) → is_spelled_word word ≡ true → kind_of (word ++ more) ≡ letter
word-kind [] more h = absurd (cc)
word-kind (b ∷ word) more h =
    let letters = (and_parts (is_ascii_alphabetic b) _ h).0 in
    let is = letter-is b (letter-least b letters) in
    cond-false (begins_number b (word ++ more)) _ _ (or_from _ _ is.no_digit (and_left _ _ (or_from _ _ is.no_plus is.no_minus)))
    ∙ cond-false (eqb b 34) _ _ is.no_quote ∙ cond-true (is_ascii_alphabetic b) _ _ letters

pub mark-kind : (b : ℕ) (more : List ℕ) → is_symbol b ≡ true → kind_of (b ∷ more) ≡ other
mark-kind b more h = by_symbol (λ b. kind_of (b ∷ more) ≡ other) refl refl refl refl refl refl refl b h

-- ---- the size of a word

prefix-append : (p : ℕ → Bool) (xs ys : List ℕ) → list_all p xs ≡ true → prefix_len p ys ≡ 0 → prefix_len p (xs ++ ys) ≡ length xs
prefix-append p [] ys all end = end
prefix-append p (x ∷ xs) ys all end =
    let parts = and_parts (p x) (list_all p xs) all in
    let others = prefix-append p xs ys parts.1 end in
    let more : 1 + prefix_len p (xs ++ ys) ≡ suc (length xs) = omega arith in cond-true (p x) _ _ parts.0 ∙ more

pub word-size : (word more : List ℕ) → is_spelled_word word ≡ true → Ends more → word_size (word ++ more) ≡ length word
word-size [] more h ends = absurd (cc)
word-size (b ∷ word) more h ends =
    let one = and_parts (is_ascii_alphabetic b) _ h in
    let two = and_parts (list_all is_word_byte word) _ one.1 in
    prefix-append is_word_byte (b ∷ word) more (and_from _ _ (letter-word b one.0) two.0) (ends-size more ends)

pub word-short : (word : List ℕ) → is_spelled_word word ≡ true → length word ≤ 32
word-short [] h = absurd (cc)
word-short (b ∷ word) h = leb-true (length (b ∷ word)) 32 (and_parts (list_all is_word_byte word) _ (and_parts (is_ascii_alphabetic b) _ h).1).1
