-- The first flag that is clear, by a loop that is left.
use Rattle.std.proofs.Common.{◌≡◌, ◌∙◌, arith, ℕ, ◌+◌, ◌*◌, ◌<◌, pos, nat_eq, cond, not, Bool, true, false, List, [], ◌∷◌, map, length, drop, codes, Some, refl, subst}
use Rattle.inform_meaning.specs.Worlds.{Program, Scope}
use Rattle.inform_meaning.specs.Frames.{Normal}
use Rattle.inform_logic.specs.Stages.{Stage}
use Rattle.inform_logic.specs.Leading.{Tests, Loops, by_return}
use Rattle.inform_logic.specs.Worked.{flag_is_clear, clear_loop, set_flags, FirstClearIsFound}
use Rattle.inform_logic.proofs.Lists.{map_at_rest, after_rest}
use Rattle.inform_logic.proofs.Words.{counted_up, eq_is}
use Rattle.inform_logic.proofs.Values.{within, number, local, entry}
use Rattle.inform_logic.proofs.Conditions.{compare}
use Rattle.inform_logic.proofs.Changes.{increment}
use Rattle.inform_logic.proofs.Statements.{end, next, returns, breaks, assign, return, break, if_true, if_false}
use Rattle.inform_logic.proofs.Loops.{while, while_once_more, loop_breaks}
use Rattle.inform_logic.proofs.Routines.{does_within, routine}

abbrev at_flag : ℕ → ℕ → Scope
at_flag r i = record { directive = r; locals = (codes "i", pos i) ∷ [] }

module _ (p : Program) (d r : ℕ) (w : Stage) (flags : List ℕ) (small : length flags < 32768)
    (there : w.arrays (codes "flag") ≡ Some (map pos flags)) where
  -- from flag i on, where the first clear one has number m
  abbrev Finds : ℕ → ℕ → ℕ → Type 0
  Finds i m most = Loops p d clear_loop (at_flag r i) w Normal (at_flag r m) w most

  -- from a flag on, the loop is left at the first flag that is clear
  loop : (rest : List ℕ) (i m : ℕ) → drop i flags ≡ rest → i + length rest ≡ length flags
      → set_flags rest < length rest → i + set_flags rest ≡ m
      → Finds i m (3 * set_flags rest + 3)
  loop [] i m left all some is = absurd (omega (arith, some))
  loop (x ∷ rest) i m left all some is = from (nat_eq x 0) refl some is
      (λ h g. loop rest (i + 1) m (after_rest flags i left) (omega (arith, all)) h g) where
        clear : {b : Bool} → nat_eq x 0 ≡ b → Tests p d flag_is_clear (at_flag r i) w b w 0
        clear is = compare (entry (local refl) there (map_at_rest pos flags i left)) number
            (eq_is x 0 ∙ is)

        from : (b : Bool) → nat_eq x 0 ≡ b
            → cond (not b) (1 + set_flags rest) 0 < length (x ∷ rest)
            → i + cond (not b) (1 + set_flags rest) 0 ≡ m
            → (set_flags rest < length rest → i + 1 + set_flags rest ≡ m
            → Finds (i + 1) m (3 * set_flags rest + 3))
            → Finds i m (3 * cond (not b) (1 + set_flags rest) 0 + 3)
        from true zero some is later =
            let here : i ≡ m = omega (arith, is) in
            subst (λ m. Finds i m 3) here (loop_breaks (compare number number refl) refl
            (breaks (if_true (clear zero) (breaks break))))
        from false set some is later = within (omega arith) (while_once_more
            (compare number number refl)
            (next (if_false (clear set) end)
            (next (assign (increment refl (counted_up p.width i (omega (arith, all, small))))) end))
            (later (omega (arith, some)) (omega (arith, is))))

pub first_clear_is_found : FirstClearIsFound
first_clear_is_found p d w flags small some has there = does_within (omega arith) (routine has
    (next (while (loop p d has.at w flags small there flags 0 (set_flags flags) refl (omega arith)
    some (omega arith))) (returns (return (local refl)))) by_return)
