-- The ends of spaces and of words in a line.
use Rattle.std.proofs.Common.{◌≡◌, ◌∙◌, arith, ℕ, suc, ◌+◌, ◌*◌, ◌≤◌, ℤ, pos, nat_lt, Bool, true, false, cond, List, [], ◌∷◌, length, drop, slice_get, codes, Option, Some, refl, ap, subst}
use Rattle.std.specs.List.{prefix_len}
use Rattle.std.proofs.lemmas.List.{length-drop}
use Rattle.inform_tree.specs.declared.conditions.Relation.{Relation}
use Rattle.inform_meaning.specs.Words.{compares}
use Rattle.inform_meaning.specs.Worlds.{Program, Scope}
use Rattle.inform_meaning.specs.Frames.{Normal}
use Rattle.inform_logic.specs.Stages.{Stage}
use Rattle.inform_logic.specs.Leading.{Tests, Loops, Does, by_return}
use Rattle.inform_logic.specs.Holding.{Has}
use Rattle.inform_logic.proofs.Lists.{after_rest}
use Rattle.inform_logic.proofs.Words.{counted_up}
use Rattle.inform_logic.proofs.Values.{within, number, local, entry}
use Rattle.inform_logic.proofs.Conditions.{compare}
use Rattle.inform_logic.proofs.Changes.{increment}
use Rattle.inform_logic.proofs.Statements.{end, next, returns, assign, return}
use Rattle.inform_logic.proofs.Loops.{while, while_once_more, while_ends}
use Rattle.inform_logic.proofs.Routines.{does_within, routine}
use Rattle.trans_words.proofs.Trees.{both, below_end, is_space, after_loop, after_routine}
use Rattle.trans_words.proofs.Pairs.{second_of_both, first_of_both}
use Rattle.trans_words.proofs.Standing.{BytesStand, byte_there}

-- a line stands in the buffer from entry 2 on, with its length in entry 1
pub record LineThere (line : List ℕ) (buffer : Option (List ℤ)) : Type 0 where
  pub all : List ℤ
  pub all_are : buffer ≡ Some all
  pub size_is : slice_get all 1 ≡ Some (pos (length line))
  pub stands : BytesStand line 2 all
  pub short : length line ≤ 120

module _ (p : Program) (w : Stage) (line : List ℕ)
    (there : LineThere line (w.arrays (codes "buf"))) (name : List ℕ) (op : Relation)
    (passes : ℕ → Bool) (tells : (b : ℕ) → compares op (pos b) (pos 32) ≡ passes b)
    (has : Has p (after_routine name op)) (d : ℕ) where
  -- where the line ends
  abbrev line_end : ℕ
  line_end = length line + 2

  abbrev scope : ℕ → Scope
  scope i = record {
    directive = has.at;
    locals = (codes "i", pos i) ∷ (codes "e", pos line_end) ∷ [];
  }

  -- the loop ends after the bytes that pass, in at most two steps for each byte that is left and
  -- one more
  loop : (rest : List ℕ) (at i m : ℕ) → drop at line ≡ rest → i ≡ 2 + at
      → i + prefix_len passes rest ≡ m → at + length rest ≡ length line
      → Loops p d (after_loop op) (scope i) w Normal (scope m) w (2 * length rest + 1)
  loop [] at i m left place stop all = subst
      (λ (m : ℕ). Loops p d (after_loop op) (scope i) w Normal (scope m) w 1) done
      (while_ends (first_of_both (compare (local refl) (local refl) over))) where
        done : i ≡ m
        done = omega (arith, stop)

        over : nat_lt i line_end ≡ false
        over = grind (arith, place, all)
  loop (x ∷ rest) at i m left place stop all = from (passes x) refl stop
      (λ m stop. loop rest (at + 1) (i + 1) m (after_rest line at left) (omega (arith, place)) stop
      (omega (arith, all))) where
        under : nat_lt i line_end ≡ true
        under = grind (arith, place, all)

        byte_is : slice_get there.all i ≡ Some (pos x)
        byte_is = ap (slice_get there.all) place ∙ byte_there there.stands at left

        test : {t : Bool} → passes x ≡ t
            → Tests p d (both below_end (is_space op)) (scope i) w t w 0
        test is = second_of_both (compare (local refl) (local refl) under)
            (compare (entry (local refl) there.all_are byte_is) number (tells x ∙ is))

        from : (t : Bool) → passes x ≡ t → i + cond t (1 + prefix_len passes rest) 0 ≡ m
            → ((m : ℕ) → (i + 1) + prefix_len passes rest ≡ m
            → Loops p d (after_loop op) (scope (i + 1)) w Normal (scope m) w (2 * length rest + 1))
            → Loops p d (after_loop op) (scope i) w Normal (scope m) w (2 * length (x ∷ rest) + 1)
        from true is stop more = within (omega arith) (while_once_more (test is)
            (next (assign (increment refl (counted_up p.width i
            (omega (arith, place, all, there.short))))) end)
            (more m (omega (arith, stop))))
        from false is stop more = within (omega arith) (subst
            (λ (m : ℕ). Loops p d (after_loop op) (scope i) w Normal (scope m) w 1) here
            (while_ends (test is))) where
              here : i ≡ m
              here = omega (arith, stop)

  pub after_is : (at m : ℕ) → at ≤ length line → (2 + at) + prefix_len passes (drop at line) ≡ m
      → Does p (suc d) name (pos (2 + at) ∷ pos line_end ∷ []) w (pos m) w (2 * length line + 3)
  after_is at m few stop = does_within (omega (arith, length-drop at line)) (routine has
      (next (while (loop (drop at line) at (2 + at) m refl refl stop
      (omega (arith, few, length-drop at line))))
      (returns (return (local refl)))) by_return)
