-- Numbers of actions, which aren't negative.
use Rattle.std.proofs.Common.{◌≡◌, ◌∙◌, ℕ, ℤ, pos, negsuc, true, false, refl, ap, Bool, cond, Ok, Err, arith}
use Rattle.std.specs.Prelude.{int_le, int_lt, unsigned_abs}
use Rattle.std.proofs.lemmas.Int.{ints}
use Rattle.adv_text.specs.Reading.{Input}
use Rattle.scott_format.specs.Faults.{negative_action}
use Rattle.scott_format.specs.Plan.{done, check, run}
use Rattle.scott_format.specs.Sections.{any_number, action_number}
use Rattle.scott_format.proofs.Plans.{run-ok}

below_0 : (z : ℤ) → int_lt z (pos 0) ≡ true → int_le (pos 0) z ≡ false
below_0 (pos n) e = absurd (grind (arith, ints, e))
below_0 (negsuc n) e = refl

-- a negative number of an action is its fault
pub negative_stops : (k : ℕ) (s after : Input) (z : ℤ) → run any_number s ≡ Ok (z, after) → int_lt z (pos 0) ≡ true → run (action_number k) s ≡ Err (negative_action k)
negative_stops k s after z e negative =
    run-ok (λ z. check (int_le (pos 0) z) (negative_action k) (done (unsigned_abs z))) any_number s after z e
    ∙ ap (λ (b : Bool). cond b (Ok (unsigned_abs z, after)) (Err (negative_action k))) (below_0 z negative)
