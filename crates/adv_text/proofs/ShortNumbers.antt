-- A short number is read digit by digit.
use Rattle.std.proofs.Common.{◌≡◌, ◌∙◌, ℕ, suc, ◌+◌, ◌-◌, ◌*◌, ◌≤◌, ◌<◌, ◌^◌, Bool, true, false, List, [], ◌∷◌, length, drop, get_or, Ok, to_z, w32, leb, refl, sym, ap, arith}
use Rattle.std.proofs.lemmas.List.{drop_more}
use Rattle.std.proofs.lemmas.Bool.{and_parts, le-leb, leb-true}
use Rattle.std.proofs.lemmas.Int.{to_z_pos}
use Rattle.std.proofs.Math.Nat.{pow-le-pow_right, pow-suc}
use Rattle.std.specs.Char.{is_ascii_digit}
use Rattle.adv_io.specs.Text.{is_whitespace}
use Rattle.adv_text.specs.Spelling.{greatest, signed}
use Rattle.adv_text.specs.Reading.{input, digits_at, amount_at, number_at}
use Rattle.adv_text.proofs.Numbers.{digit_no_sign}

-- so many digits make less than a power of ten
pub more_digits_fit : (n digits d : ℕ) → d ≤ 9 → n < 10 ^ digits → n * 10 + d < 10 ^ (digits + 1)
more_digits_fit n digits d small fits =
    let more : 10 ^ (digits + 1) ≡ 10 ^ digits * 10 = ap (λ (k : ℕ). 10 ^ k) (omega arith) ∙ pow-suc 10 digits in
    omega (arith, small, fits, more)

-- and more digits have room for more
pub few_digits_fit : (n digits most : ℕ) → digits ≤ most → n < 10 ^ digits → n < 10 ^ most
few_digits_fit n digits most few fits =
    let more : 10 ^ digits ≤ 10 ^ most = pow-le-pow_right (omega arith) few in
    omega (arith, fits, more)

-- a digit's amount
pub digit_small : (b : ℕ) → is_ascii_digit b ≡ true → b - 48 ≤ 9
digit_small b e = omega (arith, leb-true b 57 (and_parts (leb 48 b) (leb b 57) e).1)

-- seven digits make a number of 32 bits, negative or not
fits32 : (negative : Bool) (n : ℕ) → n < 10000000 → n ≤ greatest negative
fits32 true n few = omega (arith, few)
fits32 false n few = omega (arith, few)

-- the digits before place k make n, and reading goes on there
abbrev pub HasRead : List ℕ → ℕ → ℕ → Type 0
HasRead bytes n k = (negative : Bool) (start at : ℕ) → amount_at negative start at bytes ≡ digits_at negative start n (at + k) (drop k bytes)

-- the first digit
pub begun : (bytes : List ℕ) → 1 ≤ length bytes → is_ascii_digit (get_or bytes 0 0) ≡ true → HasRead bytes (get_or bytes 0 0 - 48) 1
begun [] some digit negative start at = absurd (omega (arith, some))
begun (d ∷ bytes) some digit negative start at = rw digit refl

-- one more digit
pub goes_on : (bytes : List ℕ) (n k : ℕ) → k < length bytes → is_ascii_digit (get_or bytes k 0) ≡ true → n * 10 + (get_or bytes k 0 - 48) < 10000000
    → HasRead bytes n k → HasRead bytes (n * 10 + (get_or bytes k 0 - 48)) (k + 1)
goes_on bytes n k within digit fits before negative start at =
    before negative start at
    ∙ ap (digits_at negative start n (at + k)) (drop_more bytes k 0 within)
    ∙ rw (digit, le-leb _ _ (fits32 negative _ fits)) (ap (λ place. digits_at negative start (n * 10 + (get_or bytes k 0 - 48)) place (drop (k + 1) bytes)) (omega arith))

-- no more digit
pub ends : (bytes : List ℕ) (n k : ℕ) → k < length bytes → is_ascii_digit (get_or bytes k 0) ≡ false → HasRead bytes n k
    → (negative : Bool) (start at : ℕ) → amount_at negative start at bytes ≡ Ok (signed negative n, input (at + k) (drop k bytes))
ends bytes n k within digit before negative start at =
    before negative start at
    ∙ ap (digits_at negative start n (at + k)) (drop_more bytes k 0 within)
    ∙ rw digit (ap (λ rest. Ok (signed negative n, input (at + k) rest)) (sym (drop_more bytes k 0 within)))

-- a digit after a byte of whitespace begins a number without a sign
pub from_digit : (b at : ℕ) (digits : List ℕ) → is_whitespace b ≡ true → is_ascii_digit (get_or digits 0 0) ≡ true
    → number_at (input at (b ∷ digits)) ≡ amount_at false (at + 1) (at + 1) digits
unfolding number_at
from_digit b at [] space digit = rw space refl
from_digit b at (d ∷ digits) space digit = let h = digit_no_sign d digit in rw (space, h.space_no, h.minus_no, h.plus_no) refl

-- and it is the one that is read there
pub read_after : (bytes digits : List ℕ) (at n k : ℕ) → digits ≡ drop 1 bytes → 1 ≤ length bytes → is_whitespace (get_or bytes 0 0) ≡ true → is_ascii_digit (get_or digits 0 0) ≡ true → n < 1000000
    → ((negative : Bool) (start at : ℕ) → amount_at negative start at digits ≡ Ok (signed negative n, input (at + k) (drop k digits)))
    → number_at (input at bytes) ≡ Ok (to_z w32 n, input (at + (k + 1)) (drop (k + 1) bytes))
read_after [] digits at n k same some space digit few read = absurd (omega (arith, some))
read_after (b ∷ bytes) digits at n k same some space digit few read =
    let one : suc k ≡ k + 1 = omega arith in
    let after : drop k digits ≡ drop (k + 1) (b ∷ bytes) = ap (drop k) same ∙ ap (λ (m : ℕ). drop m (b ∷ bytes)) one in
    ap (λ rest. number_at (input at (b ∷ rest))) (sym same)
    ∙ from_digit b at digits space digit
    ∙ read false (at + 1) (at + 1)
    ∙ ap (λ z. Ok (z, input (at + 1 + k) (drop k digits))) (sym (to_z_pos w32 n (omega (arith, few))))
    ∙ ap (λ (place : ℕ). Ok (to_z w32 n, input place (drop k digits))) (omega arith)
    ∙ ap (λ rest. Ok (to_z w32 n, input (at + (k + 1)) rest)) after
