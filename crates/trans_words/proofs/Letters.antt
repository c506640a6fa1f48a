-- How many letters of a word are those of an entry, and whether these are all that count.
use Rattle.std.proofs.Common.{◌≡◌, ◌∙◌, arith, ℕ, ◌+◌, ◌*◌, ◌<◌, ℤ, pos, nat_eq, nat_lt, Bool, true, false, ◌&&◌, List, [], ◌∷◌, ◌++◌, length, drop, codes, Option, Some, refl, ap, subst}
use Rattle.inform_meaning.specs.Worlds.{Program, Scope}
use Rattle.inform_meaning.specs.Frames.{Normal}
use Rattle.inform_logic.specs.Stages.{Stage}
use Rattle.inform_logic.specs.Leading.{Evaluates, Tests, Loops}
use Rattle.inform_logic.proofs.Lists.{map_at_rest, after_rest}
use Rattle.inform_logic.proofs.Words.{small_number, small_sum, small_product, counted_up, eq_is}
use Rattle.inform_logic.proofs.Values.{within, valued, number, local, entry, sum_of_two, product_of_two}
use Rattle.inform_logic.proofs.Conditions.{compare}
use Rattle.inform_logic.proofs.Changes.{increment}
use Rattle.inform_logic.proofs.Statements.{end}
use Rattle.inform_logic.proofs.Loops.{for_once_more, for_ends}
use Rattle.scott_types.specs.declared.commands.Column.{Column}
use Rattle.trans_specs.specs.Tables.{bit}
use Rattle.trans_specs.specs.Views.{naturals}
use Rattle.trans_words.proofs.Trees.{word_array, has_base, entry_letter, below_size, goes_on, letters_loop, at_size, is_same}
use Rattle.trans_words.proofs.Pairs.{second_of_both, first_of_both, second_of_either, first_of_either}
use Rattle.trans_words.proofs.Matching.{agree}
use Rattle.trans_words.proofs.Standing.{BytesStand, byte_there}

-- the bytes of a word stand in the buffer, which is small
pub record HasWord (word : List ℕ) (at : ℕ) (buffer : Option (List ℤ)) : Type 0 where
  pub all : List ℤ
  pub all_are : buffer ≡ Some all
  pub stands : BytesStand word at all
  pub small : at + length word < 32768

module _ (p : Program) (w : Stage) (word : List ℕ) (a : ℕ)
    (has_word : HasWord word a (w.arrays (codes "buf"))) (column : Column) (size k : ℕ)
    (table : List ℕ) (few : size * k + size < 32768)
    (there : w.arrays (word_array column) ≡ Some (naturals table)) (d r : ℕ) where
  abbrev scope : ℕ → Scope
  scope i = record {
    directive = r;
    locals = (codes "a", pos a) ∷ (codes "n", pos (length word)) ∷ (codes "k", pos k)
        ∷ (codes "i", pos i) ∷ [];
  }

  small : size < 32768
  small = omega (arith, few)

  -- letter i of entry k
  letter_is : (i : ℕ) {x : ℕ} {rest : List ℕ} → drop (size * k + i) table ≡ x ∷ rest → i < size
      → Evaluates p d (entry_letter column size) (scope i) w (pos x) w 0
  letter_is i left less = entry (sum_of_two (product_of_two
      (valued (small_number p.width small) number) (local refl)
      (small_product p.width size k (omega (arith, few)))) (local refl)
      (small_sum p.width (size * k) i (omega (arith, few, less)))) there
      (map_at_rest pos table (size * k + i) left)

  -- whether i letters are all that count
  counts : (i : ℕ) {t : Bool} → nat_eq i size ≡ t
      → Tests p d (at_size size) (scope i) w t w 0
  counts i is = compare (local refl) (valued (small_number p.width small) number)
      (eq_is i size ∙ is)

  -- whether more letters count
  fewer : (i : ℕ) {t : Bool} → nat_lt i size ≡ t → Tests p d (below_size size) (scope i) w t w 0
  fewer i is = compare (local refl) (valued (small_number p.width small) number) is

  -- from letter i on: the loop stops at a letter that tells whether the entry has those of the word
  abbrev pub Stops : Bool → ℕ → ℕ → Type 0
  Stops t i most = (stop : ℕ) × (Loops p d (letters_loop column size) (scope i) w Normal
      (scope stop) w most × Tests p d (is_same column size) (scope stop) w t w 0)

  module _ (has_one : (i : ℕ) → Tests p d (has_base column) (scope i) w true w 0) where
    loop : (letters rest ws : List ℕ) (i : ℕ) → drop (size * k + i) table ≡ letters ++ rest
        → drop i word ≡ ws → i + length letters ≡ size → i + length ws ≡ length word
        → Stops (agree letters ws) i (length letters + bit (agree letters ws))
    loop [] rest ws i left of_word all long = (
      i,
      (
        within (omega arith) (for_ends (second_of_both (has_one i) (first_of_both (fewer i over)))),
        first_of_either (counts i here),
      ),
    ) where
      over : nat_lt i size ≡ false
      over = grind (arith, all)

      here : nat_eq i size ≡ true
      here = grind (arith, all)
    loop (x ∷ letters) rest [] i left of_word all long = (
      i,
      (
        within (omega arith) (for_ends (second_of_both (has_one i) (second_of_both (fewer i under)
            (first_of_both (compare (local refl) (local refl) over))))),
        second_of_either (counts i not_here) (second_of_both
            (compare (local refl) (local refl) (eq_is i (length word) ∙ here))
            (compare (letter_is i left (omega (arith, all))) number (eq_is x 0))),
      ),
    ) where
      under : nat_lt i size ≡ true
      under = grind (arith, all)

      not_here : nat_eq i size ≡ false
      not_here = grind (arith, all)

      over : nat_lt i (length word) ≡ false
      over = grind (arith, long)

      here : nat_eq i (length word) ≡ true
      here = grind (arith, long)
    loop (x ∷ letters) rest (b ∷ ws) i left of_word all long = from (nat_eq b x) refl
        (loop letters rest ws (i + 1) left' (after_rest word i of_word) (omega (arith, all))
        (omega (arith, long))) where
          left' : drop (size * k + (i + 1)) table ≡ letters ++ rest
          left' =
              let same : size * k + (i + 1) ≡ (size * k + i) + 1 = omega arith in
              ap (λ (n : ℕ). drop n table) same ∙ after_rest table (size * k + i) left

          under : nat_lt i size ≡ true
          under = grind (arith, all)

          not_here : nat_eq i size ≡ false
          not_here = grind (arith, all)

          before : nat_lt i (length word) ≡ true
          before = grind (arith, long)

          not_end : nat_eq i (length word) ≡ false
          not_end = grind (arith, long)

          test : {t : Bool} → nat_eq b x ≡ t → Tests p d (goes_on column size) (scope i) w t w 0
          test is = second_of_both (has_one i) (second_of_both (fewer i under) (second_of_both
              (compare (local refl) (local refl) before)
              (compare (entry (sum_of_two (local refl) (local refl)
              (small_sum p.width a i (omega (arith, has_word.small, long)))) has_word.all_are
              (byte_there has_word.stands i of_word)) (letter_is i left (omega (arith, all)))
              (eq_is b x ∙ is))))

          from : (t : Bool) → nat_eq b x ≡ t
              → Stops (agree letters ws) (i + 1) (length letters + bit (agree letters ws))
              → Stops (t && agree letters ws) i
              (length (x ∷ letters) + bit (t && agree letters ws))
          from true is more = (
            more.0,
            (
              within (omega arith) (for_once_more (test is) end
                  (increment refl (counted_up p.width i (omega (arith, all, small)))) more.1.0),
              more.1.1,
            ),
          )
          from false is more = (
            i,
            (
              within (omega arith) (for_ends (test is)),
              second_of_either (counts i not_here)
                  (first_of_both (compare (local refl) (local refl)
                  (eq_is i (length word) ∙ not_end))),
            ),
          )

    -- as many steps as letters count, and one more where the entry has the word
    pub letters_stop : (letters rest : List ℕ) → drop (size * k) table ≡ letters ++ rest
        → length letters ≡ size → Stops (agree letters word) 0 (size + bit (agree letters word))
    letters_stop letters rest left long = subst
        (λ (n : ℕ). Stops (agree letters word) 0 (n + bit (agree letters word))) long
        (loop letters rest word 0 left' refl (omega (arith, long)) (omega arith)) where
          left' : drop (size * k + 0) table ≡ letters ++ rest
          left' =
              let same : size * k + 0 ≡ size * k = omega arith in
              ap (λ (n : ℕ). drop n table) same ∙ left
