-- A number grows with each digit.
use Rattle.std.proofs.Common.{◌≡◌, ℕ, ◌+◌, ◌*◌, ◌≤◌, ◌<◌, Bool, false, cond, leb, List, [], ◌∷◌, Some, None, ap, arith}
use Rattle.std.proofs.lemmas.Bool.Decides.{nat_tests}
use Rattle.std.specs.Char.{digit_value}
use Rattle.std.specs.Str.Parse.{digits_value, digits_value_after}
use Rattle.inform_lexer.specs.Numbers.{number_in}
use Rattle.std.proofs.Math.Nat.{mul-le-mul_left}

grows : (base n d : ℕ) → 0 < base → n ≤ n * base + d
grows base n d some = omega (arith, mul-le-mul_left n some)

pub over : (base n : ℕ) (digits : List ℕ) → 0 < base → n ≤ digits_value_after base n digits
over base n [] some = omega arith
over base n (b ∷ digits) some =
    let first : n ≤ n * base + digit_value b = grows base n (digit_value b) some in
    let rest : n * base + digit_value b ≤ digits_value_after base (n * base + digit_value b) digits = over base (n * base + digit_value b) digits some in
    omega arith

-- so no further digit brings it back
pub too_large : (base n : ℕ) (rest digits : List ℕ) → 0 < base → 4294967295 < n
    → digits_value_after base n rest ≡ digits_value base digits → number_in base digits ≡ None
too_large base n rest digits some large same =
    let grown : n ≤ digits_value_after base n rest = over base n rest some in
    let large : 4294967295 < digits_value base digits = omega (arith, grown, same) in
    let not_number : leb (digits_value base digits) 4294967295 ≡ false = grind (arith, nat_tests) in
    ap (λ (b : Bool). cond b (Some (digits_value base digits)) None) not_number
