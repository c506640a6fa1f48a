-- Numbers as the command line writes them.
use Rattle.std.proofs.Common.{◌≡◌, ℕ, ◌<◌, ◌^◌, List, length, refl, Bool, true, false, ltb, arith, rules, Result, Ok, Err}
use Rattle.std.specs.Prelude.{◌&&◌}
use Rattle.std.specs.Result.{OkIff, result_ok}
use Rattle.std.specs.Str.Parse.{ParsesUnsigned, digits_value}
use Rattle.std.specs.List.{list_all}
use Rattle.std.specs.Char.{is_ascii_digit}
use Rattle.std.proofs.lemmas.Bool.Decides.{nat_tests}
use Rattle.std.proofs.lemmas.Str.Parse.{IsNumeralModel, numerals_by_value, parse_digits}
use Rattle.scott_requests.specs.Parts.{number_of}

digits : IsNumeralModel (λ ds. list_all is_ascii_digit ds ≡ true) (digits_value 10)
digits = numerals_by_value _ (search rules)

-- the test of a number of digits, answered
fits : (size value : ℕ) → (0 < size) × (value < 2 ^ 64) → (ltb 0 size && ltb value (2 ^ 64)) ≡ true
fits size value h = grind (arith, nat_tests, h.0, h.1)

unfit : (size value : ℕ) → ¬ ((0 < size) × (value < 2 ^ 64))
    → (ltb 0 size && ltb value (2 ^ 64)) ≡ false
unfit size value h = decided (ltb 0 size && ltb value (2 ^ 64)) refl
  where
    decided : (b : Bool) → (ltb 0 size && ltb value (2 ^ 64)) ≡ b → b ≡ false
    decided false e = refl
    decided true e = absurd (h (grind (arith, nat_tests, e), grind (arith, nat_tests, e)))

by_answer : {E : Type 0} (bs : List ℕ) (r : Result ℕ E) → list_all is_ascii_digit bs ≡ true
    → OkIff r ((0 < length bs) × (digits_value 10 bs < 2 ^ 64)) (digits_value 10 bs)
    → result_ok r ≡ number_of bs
by_answer bs (Ok n) all h = rw (all, fits (length bs) (digits_value 10 bs) h.0, h.1) refl
by_answer bs (Err e) all h = rw (all, unfit (length bs) (digits_value 10 bs) h) refl

-- what `parse` gives for digits
pub number-parsed : {E : Type 0} (bs : List ℕ) (r : Result ℕ E) → ParsesUnsigned 64 10 bs r
    → list_all is_ascii_digit bs ≡ true → result_ok r ≡ number_of bs
number-parsed bs r h all = by_answer bs r all (parse_digits digits 64 bs r h all)
