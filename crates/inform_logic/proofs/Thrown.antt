-- The sum of dice, by a loop whose test comes after its body.
use Rattle.std.proofs.Common.{◌≡◌, ◌∙◌, arith, ℕ, suc, ◌+◌, ◌-◌, ◌*◌, ◌%◌, ◌<◌, pos, nat_eq, false, List, [], ◌∷◌, ◌++◌, map, length, codes, refl, sym, ap₂, subst, mod-lt, append_assoc, append-nil}
use Rattle.adv_io.specs.Steps.{Drew}
use Rattle.inform_meaning.specs.Worlds.{Program, Scope}
use Rattle.inform_meaning.specs.Frames.{Normal}
use Rattle.inform_meaning.specs.Statements.{do_loop}
use Rattle.inform_logic.specs.Stages.{Stage}
use Rattle.inform_logic.specs.Leading.{Runs, Loops, Does, by_return}
use Rattle.inform_logic.specs.Worked.{throw, all_thrown, thrown, after_draws, DiceAreAdded}
use Rattle.inform_logic.proofs.Words.{small_sum, counted_down, eq_is}
use Rattle.inform_logic.proofs.Values.{within, number, local, sum_of_two, random}
use Rattle.inform_logic.proofs.Conditions.{compare}
use Rattle.inform_logic.proofs.Changes.{set_variable, decrement}
use Rattle.inform_logic.proofs.Statements.{end, next, returns, assign, return}
use Rattle.inform_logic.proofs.Loops.{do_until, do_once_more, do_ends}
use Rattle.inform_logic.proofs.Routines.{does_within, routine}

abbrev throwing : ℕ → ℕ → ℕ → Scope
throwing r n t = record { directive = r; locals = (codes "n", pos n) ∷ (codes "t", pos t) ∷ [] }

module _ (p : Program) (d r : ℕ) where
  -- one die
  one : (w : Stage) (n t draw : ℕ) (draws : List ℕ) → t + 6 < 32768 → n < 32768
      → w.draws ≡ draw ∷ draws
      → Runs p d throw (throwing r (suc n) t) w Normal (throwing r n (t + ((draw - 1) % 6 + 1)))
      (after_draws (draw ∷ []) draws w) 2
  one w n t draw draws few small there =
      next (assign (set_variable (sum_of_two (local refl) (random number refl there)
      (small_sum p.width t ((draw - 1) % 6 + 1) (omega (arith, few, mod-lt)))) refl))
      (next (assign (decrement refl (counted_down p.width n small))) end)

  -- as many dice as are left
  abbrev Throws : List ℕ → ℕ → Stage → Stage → ℕ → Type 0
  Throws draws t w w' most = Loops p d (do_loop throw all_thrown) (throwing r (length draws) t) w
      Normal (throwing r 0 (thrown t draws)) w' most

  -- from a sum on, the loop adds a die for each that is left, and takes a draw for each
  loop : (draws rest : List ℕ) (w : Stage) (t : ℕ) → t + 6 * length draws < 32768
      → w.draws ≡ draws ++ rest
      → Throws draws t w (after_draws draws rest w) (3 * length draws + 1)
  loop [] rest w t small there = subst (λ w'. Throws [] t w w' 1)
      (ap₂ (λ draws past. record w { draws = draws; past = past }) there (sym (append-nil w.past)))
      (do_ends (compare (local refl) number refl))
  loop (draw ∷ draws) rest w t small there =
      let some : nat_eq (suc (length draws)) 0 ≡ false = grind arith in
      subst (λ past. Throws (draw ∷ draws) t w (record w { draws = rest; past = past })
      (3 * length (draw ∷ draws) + 1)) (append_assoc w.past (Drew draw ∷ []) (map Drew draws))
      (within (omega arith) (do_once_more
      (compare (local refl) number (eq_is (suc (length draws)) 0 ∙ some))
      (one w (length draws) t draw (draws ++ rest) (omega (arith, small)) (omega (arith, small))
      there)
      (loop draws rest (after_draws (draw ∷ []) (draws ++ rest) w) (t + ((draw - 1) % 6 + 1))
      (omega (arith, small, mod-lt)) refl)))

-- the routine gives the sum of as many dice as it is asked for, one draw for each
pub dice_are_added : DiceAreAdded
dice_are_added p d w draw draws rest small has there =
    subst (λ past. Does p (suc d) (codes "throws") (pos (length (draw ∷ draws)) ∷ []) w
    (pos (thrown 0 (draw ∷ draws))) (record w { draws = rest; past = past })
    (3 * length (draw ∷ draws) + 2)) (append_assoc w.past (Drew draw ∷ []) (map Drew draws))
    (does_within (omega arith) (routine has (next (do_until
    (one p d has.at w (length draws) 0 draw (draws ++ rest) (omega arith) (omega (arith, small))
    there)
    (loop p d has.at draws rest (after_draws (draw ∷ []) (draws ++ rest) w)
    (0 + ((draw - 1) % 6 + 1)) (omega (arith, small, mod-lt)) refl))
    (returns (return (local refl)))) by_return))
