-- The base entry that a word names.
use Rattle.std.proofs.Common.{◌≡◌, ◌∙◌, arith, ℕ, suc, ◌+◌, ◌*◌, ◌<◌, ◌≤◌, pos, nat_eq, nat_lt, Bool, true, false, not, ◌&&◌, if◌then◌else◌, List, [], ◌∷◌, ◌++◌, length, drop, flat_map, codes, Option, Some, None, IfSome, is_some, refl, sym, ap, subst, append_assoc}
use Rattle.std.proofs.lemmas.List.{length-map}
use Rattle.std.proofs.Math.Nat.{mul-le-mul_right}
use Rattle.std.proofs.Math.Bool.{and-false}
use Rattle.inform_tree.specs.declared.conditions.Relation.TheVariants.{Eq}
use Rattle.inform_tree.specs.Values as v
use Rattle.inform_tree.specs.Conditions as c
use Rattle.inform_meaning.specs.Worlds.{Program, Scope}
use Rattle.inform_meaning.specs.Words.{word_sum}
use Rattle.inform_meaning.specs.Frames.{Loop, Outcome, Normal, Returns}
use Rattle.inform_logic.specs.Stages.{Stage}
use Rattle.inform_logic.specs.Leading.{Evaluates, Tests, Loops, Does, by_return}
use Rattle.inform_logic.proofs.Lists.{map_at_rest, after_rest}
use Rattle.inform_logic.proofs.Words.{small_number, counted_up, eq_is, ne_is}
use Rattle.inform_logic.proofs.Values.{within, valued, number, local, entry}
use Rattle.inform_logic.proofs.Conditions.{compare}
use Rattle.inform_logic.proofs.Changes.{set_variable, increment}
use Rattle.inform_logic.proofs.Statements.{end, next, returns, return, if_true, if_false}
use Rattle.inform_logic.proofs.Loops.{for, for_once_more, for_ends, loop_returns}
use Rattle.inform_logic.proofs.Routines.{does_within, routine}
use Rattle.scott_types.specs.declared.commands.Column.{Column}
use Rattle.scott_types.specs.Database.{Database}
use Rattle.scott_types.specs.Limits.{KeepsLimits}
use Rattle.scott_types.specs.ItemText.{is_starred}
use Rattle.scott_rules.specs.Words.{is_typed, spelling, column_of, entries_of, entry_from, which}
use Rattle.trans_specs.specs.Tables.{bit, or_zero, entry_letters, word_letters, bases_from, word_bases}
use Rattle.trans_words.proofs.Trees.{name, find_name, word_array, base_array, base_of, has_base, is_same, below_entries, find_loop}
use Rattle.trans_words.proofs.Pairs.{first_of_both, second_of_either}
use Rattle.trans_words.proofs.Held.{HasReader}
use Rattle.trans_words.proofs.Matching.{is_word, letters_long, agrees_is}
use Rattle.trans_words.proofs.Letters.{HasWord, Stops, letters_stop}
use Rattle.trans_words.proofs.Tables.{some_words, few_words, letters_small, nothing_named, HasColumn, after_row, first_letters, first_bases, count_rest}

-- so many steps for each entry
abbrev pub entry_steps : ℕ → ℕ
entry_steps size = size + 3

abbrev pub find_steps : ℕ → ℕ → ℕ
find_steps size entries = entries * entry_steps size + 5

-- how the loop ends: what it finds is returned
abbrev ending : Option ℕ → Outcome
ending None = Normal
ending (Some base) = Returns (pos base)

module _ (p : Program) (w : Stage) (b : ℕ) (ws : List ℕ) (typed : is_word (b ∷ ws) ≡ true) (a : ℕ)
    (has_word : HasWord (b ∷ ws) a (w.arrays (codes "buf"))) (db : Database)
    (limits : KeepsLimits db) (column : Column)
    (tables : HasColumn db column (w.arrays (word_array column)) (w.arrays (base_array column)))
    (has : HasReader db p) (d : ℕ) where
  abbrev word : List ℕ
  word = b ∷ ws

  abbrev size : ℕ
  size = db.header.length

  abbrev turns : Loop
  turns = find_loop column size (length db.words)

  abbrev scope : ℕ → ℕ → Scope
  scope k i = record {
    directive = (has.find column).at;
    locals = (codes "a", pos a) ∷ (codes "n", pos (length word)) ∷ (codes "k", pos k)
        ∷ (codes "i", pos i) ∷ [];
  }

  -- from entry k on: no entry is found, or one that has this base entry
  abbrev Finds : Option ℕ → ℕ → ℕ → Type 0
  Finds o k most =
      (i : ℕ) → (s : Scope) × Loops p d turns (scope k i) w (ending o) s w most

  small : length db.words < 32768
  small = omega (arith, few_words db limits)

  some_letters : 1 ≤ size
  some_letters = limits.header.length_range.0

  -- whether there are more entries
  fewer : (k i : ℕ) {t : Bool} → nat_lt k (length db.words) ≡ t
      → Tests p d (below_entries (length db.words)) (scope k i) w t w 0
  fewer k i is = compare (local refl) (valued (small_number p.width small) number) is

  -- where no letter is the same, the entry has other letters than the word
  not_empty : (k : ℕ) → Tests p d (is_same column size) (scope k 0) w false w 0
  not_empty k = second_of_either
      (compare (local refl) (valued (small_number p.width few) number) (eq_is 0 size ∙ not_none))
      (first_of_both (compare (local refl) (local refl) (eq_is 0 (length word) ∙ some_bytes))) where
        few : size < 32768
        few = omega (arith, limits.header.length_range.1)

        not_none : nat_eq 0 size ≡ false
        not_none = grind (arith, some_letters)

        some_bytes : nat_eq 0 (length word) ≡ false
        some_bytes = grind arith

  -- ---- one entry, with the letters of it and of those after it

  abbrev letters_of : List (List ℕ) → List ℕ
  letters_of entries = flat_map (entry_letters size) entries ++ 0 ∷ []

  module _ (k : ℕ) (text : List ℕ) (entries : List (List ℕ)) (less : k < length db.words)
      (letters_here : drop (size * k) (word_letters db column)
      ≡ entry_letters size text ++ letters_of entries) where
    letters_after : drop (size * (k + 1)) (word_letters db column) ≡ letters_of entries
    letters_after =
        let next_row : size * (k + 1) ≡ size * k + size = omega arith in
        ap (λ (n : ℕ). drop n (word_letters db column)) next_row
        ∙ after_row (word_letters db column) (entry_letters size text) (letters_of entries)
        (size * k) size letters_here (letters_long size text)

    under : nat_lt k (length db.words) ≡ true
    under = grind (arith, less)

    counts_up : word_sum p.width (pos k) (pos 1) ≡ pos (k + 1)
    counts_up = counted_up p.width k (omega (arith, less, small))

    -- the base entry of this one is the nearest, or 0
    abbrev HasNearest : Option ℕ → Type 0
    HasNearest nearest = drop k (word_bases db column)
        ≡ or_zero nearest ∷ (bases_from nearest (k + 1) entries ++ 0 ∷ [])

    base_is : (nearest : Option ℕ) → HasNearest nearest → (i : ℕ)
        → Evaluates p d (base_of column) (scope k i) w (pos (or_zero nearest)) w 0
    base_is nearest left i = entry (local refl) tables.bases_are
        (map_at_rest pos (word_bases db column) k left)

    -- the letters of this entry are those of the word, or not
    abbrev Comparison : Bool → Type 0
    Comparison t = Stops p w word a has_word column size k (word_letters db column)
        (letters_small db limits k less) tables.words_are d (has.find column).at t 0 (size + bit t)

    comparison : ((i : ℕ) → Tests p d (has_base column) (scope k i) w true w 0)
        → Comparison (is_typed size (spelling text) word)
    comparison has_one = subst Comparison (agrees_is size some_letters b ws typed text)
        (letters_stop p w word a has_word column size k (word_letters db column)
        (letters_small db limits k less) tables.words_are d (has.find column).at has_one
        (entry_letters size text) (letters_of entries) letters_here (letters_long size text))

    -- from the next entry on, and from this one on
    abbrev FindsAfter : Option ℕ → Type 0
    FindsAfter o = Finds o (k + 1) (length entries * entry_steps size + 2)

    abbrev FindsHere : Option ℕ → Type 0
    FindsHere o = Finds o k (suc (length entries) * entry_steps size + 2)

    -- no entry before it is a base entry, so no letter is compared
    passed_by : HasNearest None → FindsAfter (entry_from size word None (k + 1) entries)
        → FindsHere (entry_from size word None (k + 1) entries)
    passed_by left after i = (
      (after 0).0,
      within (omega (arith, some_letters)) (for_once_more (fewer k i under)
          (next (for (set_variable number refl) (for_ends (first_of_both
          (compare (base_is None left 0) number refl))))
          (next (if_false (not_empty k) end) end))
          (increment refl counts_up) (after 0).1),
    )

    -- its letters are compared: its base entry is found, or the next entry is looked at
    compared : (own : ℕ) → HasNearest (Some own) → (t : Bool) → Comparison t
        → FindsAfter (entry_from size word (Some own) (k + 1) entries)
        → FindsHere (if t && true then Some own
        else entry_from size word (Some own) (k + 1) entries)
    compared own left true ends after i = (
      scope k ends.0,
      within (omega arith) (loop_returns (fewer k i under) refl
          (next (for (set_variable number refl) ends.1.0)
          (returns (if_true ends.1.1 (returns (return (base_is (Some own) left ends.0))))))),
    )
    compared own left false ends after i = (
      (after ends.0).0,
      within (omega arith) (for_once_more (fewer k i under)
          (next (for (set_variable number refl) ends.1.0) (next (if_false ends.1.1 end) end))
          (increment refl counts_up) (after ends.0).1),
    )

    looked_at : (nearest : Option ℕ) → HasNearest nearest → IfSome nearest (λ n. 1 ≤ n)
        → FindsAfter (entry_from size word nearest (k + 1) entries)
        → FindsHere (if is_typed size (spelling text) word && is_some nearest then nearest
        else entry_from size word nearest (k + 1) entries)
    looked_at None left some after = subst
        (λ (t : Bool). FindsHere (if t then None else entry_from size word None (k + 1) entries))
        (sym (and-false (is_typed size (spelling text) word))) (passed_by left after)
    looked_at (Some own) left some after =
        compared own left (is_typed size (spelling text) word) (comparison has_one) after where
          not_none : nat_eq own 0 ≡ false
          not_none = grind (arith, some)

          has_one : (i : ℕ) → Tests p d (has_base column) (scope k i) w true w 0
          has_one i = compare (base_is (Some own) left i) number (ne_is own 0 ∙ ap not not_none)

  -- ---- the entries that are left

  -- from an entry on, the loop finds the base entry that the rules find, in at most `entry_steps`
  -- for each entry and two more
  loop : (entries : List (List ℕ)) (base : Option ℕ) (k : ℕ)
      → drop (size * k) (word_letters db column) ≡ letters_of entries
      → drop k (word_bases db column) ≡ bases_from base k entries ++ 0 ∷ []
      → IfSome base (λ n. 1 ≤ n) → 1 ≤ k → k + length entries ≡ length db.words
      → Finds (entry_from size word base k entries) k (length entries * entry_steps size + 2)
  loop [] base k letters_left bases_left counted one all =
      λ i. (scope k i, within (omega arith) (for_ends (fewer k i over))) where
        over : nat_lt k (length db.words) ≡ false
        over = grind (arith, all)
  loop (text ∷ entries) base k letters_left bases_left counted one all =
      looked_at k text entries less letters_here nearest bases_left (still (is_starred text))
      (loop entries nearest (k + 1) (letters_after k text entries less letters_here)
      (after_rest (word_bases db column) k bases_left) (still (is_starred text)) (omega arith)
      (omega (arith, all))) where
        nearest : Option ℕ
        nearest = if is_starred text then base else Some k

        still : (t : Bool) → IfSome (if t then base else Some k) (λ n. 1 ≤ n)
        still true = counted
        still false = one

        less : k < length db.words
        less = omega (arith, all)

        letters_here : drop (size * k) (word_letters db column)
            ≡ entry_letters size text ++ letters_of entries
        letters_here = letters_left ∙ append_assoc (entry_letters size text)
            (flat_map (entry_letters size) entries) (0 ∷ [])

  -- the routine of a column returns the base entry that the word names, or 0
  find_some : Does p (suc d) (find_name column) (pos a ∷ pos (length word) ∷ []) w
      (pos (or_zero (which db column word))) w (find_steps size (length db.words))
  find_some = from (which db column word) (loop rest None 1
      (first_letters size (entries_of db column) some)
      (first_bases (entries_of db column) some) tt (omega arith) (omega (arith, all))) where
        rest : List (List ℕ)
        rest = drop 1 (entries_of db column)

        some : 1 ≤ length (entries_of db column)
        some = omega (arith, length-map db.words (column_of column), some_words db limits)

        all : 1 + length rest ≡ length db.words
        all = count_rest (entries_of db column) some ∙ length-map db.words (column_of column)

        few_steps : length rest * entry_steps size ≤ length db.words * entry_steps size
        few_steps = mul-le-mul_right (entry_steps size) (omega (arith, all))

        has_bytes : nat_eq (length word) 0 ≡ false
        has_bytes = grind arith

        more : Tests p d (c.Compare Eq (name (codes "n")) (v.Number 0)) (scope 0 0) w
            false w 0
        more = compare (local refl) number (eq_is (length word) 0 ∙ has_bytes)

        from : (o : Option ℕ) → Finds o 1 (length rest * entry_steps size + 2)
            → Does p (suc d) (find_name column) (pos a ∷ pos (length word) ∷ []) w
            (pos (or_zero o)) w (find_steps size (length db.words))
        from None ends = does_within (omega (arith, few_steps)) (routine (has.find column)
            (next (if_false more end) (next (for (set_variable number refl) (ends 0).1)
            (returns (return number)))) by_return)
        from (Some base) ends = does_within (omega (arith, few_steps)) (routine (has.find column)
            (next (if_false more end) (returns (for (set_variable number refl) (ends 0).1)))
            by_return)

-- any typed word, which may have no bytes
pub find_is : (p : Program) (w : Stage) (word : List ℕ) → is_word word ≡ true → (a : ℕ)
    → HasWord word a (w.arrays (codes "buf")) → (db : Database) → KeepsLimits db
    → (column : Column)
    → HasColumn db column (w.arrays (word_array column)) (w.arrays (base_array column))
    → HasReader db p → (d : ℕ)
    → Does p (suc d) (find_name column) (pos a ∷ pos (length word) ∷ []) w
    (pos (or_zero (which db column word))) w (find_steps db.header.length (length db.words))
find_is p w [] typed a has_word db limits column tables has d = does_within (omega arith)
    (subst (λ (o : Option ℕ). Does p (suc d) (find_name column) (pos a ∷ pos 0 ∷ []) w
    (pos (or_zero o)) w 2) (sym (nothing_named db column limits))
    (routine (has.find column) (returns (if_true (compare (local refl) number refl)
    (returns (return number)))) by_return))
find_is p w (b ∷ ws) typed a has_word db limits column tables has d =
    find_some p w b ws typed a has_word db limits column tables has d
