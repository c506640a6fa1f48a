-- The decimal digits of a number: one at least, and nothing but digits.
use Rattle.std.proofs.Common.{◌≡◌, ℕ, ◌+◌, ◌%◌, ◌^◌, ◌<◌, ◌&&◌, Bool, true, false, List, [], ◌∷◌, ◌++◌, refl, arith}
use Rattle.std.specs.List.{list_all}
use Rattle.std.specs.Char.{is_ascii_digit}
use Rattle.std.specs.Fmt.{decimal}
use Rattle.std.proofs.lemmas.Fmt.{decimal_by_steps}
use Rattle.std.proofs.lemmas.Bool.{and_parts, and_from, le-leb}

abbrev pub is_numeral : List ℕ → Bool
is_numeral [] = false
is_numeral (b ∷ bytes) = is_ascii_digit b && list_all is_ascii_digit bytes

digit_byte : (d : ℕ) → d < 10 → is_ascii_digit (48 + d) ≡ true
digit_byte d h = and_from _ _ (le-leb 48 (48 + d) (omega arith)) (le-leb (48 + d) 57 (omega arith))

digits-more : (bytes : List ℕ) (b : ℕ) → list_all is_ascii_digit bytes ≡ true → is_ascii_digit b ≡ true → list_all is_ascii_digit (bytes ++ b ∷ []) ≡ true
digits-more [] b all h = and_from _ _ h refl
digits-more (d ∷ bytes) b all h =
    let parts = and_parts (is_ascii_digit d) (list_all is_ascii_digit bytes) all in and_from _ _ parts.0 (digits-more bytes b parts.1 h)

numeral-more : (bytes : List ℕ) (b : ℕ) → is_numeral bytes ≡ true → is_ascii_digit b ≡ true → is_numeral (bytes ++ b ∷ []) ≡ true
numeral-more [] b e h = absurd (cc)
numeral-more (d ∷ bytes) b e h =
    let parts = and_parts (is_ascii_digit d) (list_all is_ascii_digit bytes) e in and_from _ _ parts.0 (digits-more bytes b parts.1 h)

pub decimal-numeral : (n : ℕ) → n < 2 ^ 64 → is_numeral (decimal n) ≡ true
decimal-numeral n small =
    decimal_by_steps (λ k bytes. is_numeral bytes ≡ true) (λ k low. and_from _ _ (digit_byte k low) refl)
    (λ k bytes high h. numeral-more bytes (48 + k % 10) h (digit_byte (k % 10) (omega arith))) n small
