-- How many calls may still be opened.
use Rattle.std.proofs.Common.{◌≡◌, arith, ℕ, suc, ◌-◌, ◌≤◌, subst}

-- a number of calls from which one was taken
pub one_less : (P : ℕ → Type 0) (most d : ℕ) → suc most ≤ d → ((k : ℕ) → most ≤ k → P (suc k))
    → P d
one_less P most d h by = subst P is (by (d - 1) (omega (arith, h))) where
  is : suc (d - 1) ≡ d
  is = omega (arith, h)
