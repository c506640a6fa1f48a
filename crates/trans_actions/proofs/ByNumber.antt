-- What holds of each of so many numbers.
use Rattle.std.proofs.Common.{◌≡◌, arith, ℕ, zero, suc, ◌+◌, ◌<◌, subst}

-- from one number on
abbrev pub AllFrom : (ℕ → Type 0) → ℕ → ℕ → Type 0
AllFrom P n zero = Unit {0}
AllFrom P n (suc count) = P n × AllFrom P (n + 1) count

pub at_number : (P : ℕ → Type 0) (n count k : ℕ) → AllFrom P n count → k < count → P (n + k)
at_number P n zero k h less = absurd (omega (arith, less))
at_number P n (suc count) zero h less = let is : n ≡ n + 0 = omega arith in subst P is h.0
at_number P n (suc count) (suc k) h less =
    let is : n + 1 + k ≡ n + suc k = omega arith in
    subst P is (at_number P (n + 1) count k h.1 (omega (arith, less)))
