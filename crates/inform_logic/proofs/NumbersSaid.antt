-- Numbers that are said by a loop.
use Rattle.std.proofs.Common.{◌≡◌, ◌∙◌, arith, ℕ, zero, suc, ◌+◌, ◌*◌, ◌<◌, pos, decimal, nat_lt, true, false, [], ◌∷◌, ◌++◌, codes, refl, sym, ap, subst, subst₂}
use Rattle.inform_meaning.specs.Worlds.{Program, Scope}
use Rattle.inform_meaning.specs.Frames.{Normal}
use Rattle.inform_logic.specs.Stages.{Stage, said}
use Rattle.inform_logic.specs.Leading.{Loops, at_end}
use Rattle.inform_logic.specs.Worked.{numbers_loop, numbers_text, NumbersAreSaid}
use Rattle.inform_logic.proofs.Words.{counted_up}
use Rattle.inform_logic.proofs.Values.{within, number, local}
use Rattle.inform_logic.proofs.Conditions.{compare}
use Rattle.inform_logic.proofs.Changes.{set_variable, increment}
use Rattle.inform_logic.proofs.Printing.{print_nothing, print_text, print_number, said_nothing, said_twice}
use Rattle.inform_logic.proofs.Statements.{end, next, print}
use Rattle.inform_logic.proofs.Loops.{for, for_once_more, for_ends}
use Rattle.inform_logic.proofs.Routines.{does_within, routine}

abbrev at_number : ℕ → ℕ → ℕ → Scope
at_number r n i =
    record { directive = r; locals = (codes "n", pos n) ∷ (codes "i", pos i) ∷ [] }

module _ (p : Program) (d r n : ℕ) (small : n < 32768) where
  -- from number i on
  abbrev Says : ℕ → Stage → Stage → ℕ → Type 0
  Says i w w' most = Loops p d numbers_loop (at_number r n i) w Normal (at_number r n n) w' most

  -- from a number on, the loop says each number that is left
  loop : (count i : ℕ) (w : Stage) → i + count ≡ n
      → Says i w (said (numbers_text i count) w) (2 * count + 1)
  loop zero i w all =
      let done : n ≡ i = omega (arith, all) in
      let over : nat_lt n n ≡ false = grind arith in
      subst₂ (λ i w'. Says i w w' 1) done (sym (said_nothing w))
      (for_ends (compare (local refl) (local refl) over))
  loop (suc count) i w all =
      let under : nat_lt i n ≡ true = grind (arith, all) in
      subst (λ w'. Says i w w' (2 * suc count + 1))
      (ap (said (numbers_text (i + 1) count)) (said_twice (decimal i) (codes " ") w)
      ∙ said_twice (decimal i ++ codes " ") (numbers_text (i + 1) count) w)
      (within (omega arith) (for_once_more (compare (local refl) (local refl) under)
      (next (print (print_number (local refl) (print_text print_nothing))) end)
      (increment refl (counted_up p.width i (omega (arith, all, small))))
      (loop count (i + 1) _ (omega (arith, all)))))

pub numbers_are_said : NumbersAreSaid
numbers_are_said p d w n small has = does_within (omega arith) (routine has
    (next (for (set_variable number refl) (loop p d has.at n small n 0 w (omega arith))) end)
    at_end)
