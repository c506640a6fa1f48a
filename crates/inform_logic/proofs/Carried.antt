-- The count of the carried items.
use Rattle.std.proofs.Common.{◌≡◌, ◌∙◌, arith, ℕ, ◌+◌, ◌*◌, ◌<◌, ◌≤◌, pos, nat_eq, nat_lt, Bool, true, false, List, [], ◌∷◌, map, length, drop, fold, cond, codes, Some, refl, sym, subst, add-zero}
use Rattle.inform_meaning.specs.Worlds.{Program, Scope}
use Rattle.inform_meaning.specs.Frames.{Normal}
use Rattle.inform_logic.specs.Stages.{Stage}
use Rattle.inform_logic.specs.Leading.{Tests, Loops, by_return}
use Rattle.inform_logic.specs.Worked.{item_is_held, item_below, carried_loop, CarriedIsCounted}
use Rattle.inform_logic.proofs.Lists.{map_at_rest, after_rest}
use Rattle.inform_logic.proofs.Words.{small_number, counted_up, eq_is}
use Rattle.inform_logic.proofs.Values.{within, valued, number, local, entry}
use Rattle.inform_logic.proofs.Conditions.{compare}
use Rattle.inform_logic.proofs.Changes.{set_variable, increment}
use Rattle.inform_logic.proofs.Statements.{end, next, returns, assign, return, if_true, if_false}
use Rattle.inform_logic.proofs.Loops.{for, for_once_more, for_ends}
use Rattle.inform_logic.proofs.Routines.{does_within, routine}

abbrev counting : ℕ → ℕ → ℕ → Scope
counting r i n =
    record { directive = r; locals = (codes "i", pos i) ∷ (codes "n", pos n) ∷ [] }

abbrev more : ℕ → List ℕ → ℕ
more n xs = fold (λ n x. n + cond (nat_eq x 255) 1 0) n xs

module _ (p : Program) (d r : ℕ) (w : Stage) (places : List ℕ) (small : length places < 32768)
    (there : w.arrays (codes "item") ≡ Some (map pos places)) where
  -- from this item on, with so many before it that are held
  abbrev Counts : ℕ → ℕ → ℕ → ℕ → Type 0
  Counts i n all most = Loops p d (carried_loop (length places)) (counting r i n) w Normal
      (counting r (length places) all) w most

  -- from an item on, the loop adds the items that are held to the count so far
  loop : (rest : List ℕ) (i n : ℕ) → drop i places ≡ rest → i + length rest ≡ length places
      → n ≤ i → Counts i n (more n rest) (3 * length rest + 1)
  loop [] i n left all few = subst (λ i. Counts i n n 1) done
      (for_ends (compare (local refl) (valued (small_number p.width small) number) over)) where
        done : length places ≡ i
        done = omega (arith, all)

        over : nat_lt (length places) (length places) ≡ false
        over = grind arith
  loop (x ∷ rest) i n left all few = from (nat_eq x 255) refl
      (λ m h. loop rest (i + 1) m (after_rest places i left) (omega (arith, all)) h) where
        under : nat_lt i (length places) ≡ true
        under = grind (arith, all)

        on : Tests p d (item_below (length places)) (counting r i n) w true w 0
        on = compare (local refl) (valued (small_number p.width small) number) under

        held : {b : Bool} → nat_eq x 255 ≡ b → Tests p d item_is_held (counting r i n) w b w 0
        held is = compare (entry (local refl) there (map_at_rest pos places i left)) number
            (eq_is x 255 ∙ is)

        from : (b : Bool) → nat_eq x 255 ≡ b
            → ((m : ℕ) → m ≤ i + 1 → Counts (i + 1) m (more m rest) (3 * length rest + 1))
            → Counts i n (more (n + cond b 1 0) rest) (3 * length (x ∷ rest) + 1)
        from true is after = within (omega arith) (for_once_more on
            (next (if_true (held is)
            (next (assign (increment refl (counted_up p.width n (omega (arith, few, all, small)))))
            end)) end)
            (increment refl (counted_up p.width i (omega (arith, all, small))))
            (after (n + 1) (omega (arith, few))))
        from false is after = within (omega arith) (for_once_more on
            (next (if_false (held is) end) end)
            (increment refl (counted_up p.width i (omega (arith, all, small))))
            (subst (λ m. Counts (i + 1) n (more m rest) (3 * length rest + 1)) (sym (add-zero n))
            (after n (omega (arith, few)))))

pub carried_is_counted : CarriedIsCounted
carried_is_counted p d w places small has there = does_within (omega arith) (routine has
    (next (for (set_variable number refl)
    (loop p d has.at w places small there places 0 0 refl (omega arith) (omega arith)))
    (returns (return (local refl)))) by_return)
