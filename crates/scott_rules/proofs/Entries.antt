-- A word names the base entry of the least entry that matches it.
use Rattle.std.proofs.Common.{◌≡◌, ◌∙◌, ℕ, ◌+◌, ◌<◌, ◌≤◌, List, [], ◌∷◌, length, drop, get_or, Bool, true, false, cond, Option, Some, None, refl, sym, ap, arith, below_more, drop-drop, length-drop, get_or-drop, add-zero}
use Rattle.std.specs.Prelude.{◌&&◌, is_some, MatchOption}
use Rattle.scott_types.specs.declared.commands.Column.{Column}
use Rattle.scott_types.specs.Database.{Database}
use Rattle.scott_types.specs.ItemText.{is_starred}
use Rattle.scott_rules.specs.Words.{is_typed, spelling, entry_from, entries_of, which}
use Rattle.scott_rules.specs.Laws.{entry_at, IsBaseEntryOf, EntryMatches, IsLeastMatch}

-- ---- the list from an entry on

from_entry : (all : List (List ℕ)) (k : ℕ) (entry : List ℕ) (entries : List (List ℕ)) → drop k all ≡ entry ∷ entries → entry_at all k ≡ entry
from_entry all k entry entries e =
    ap (λ i. get_or all i []) (sym (add-zero k)) ∙ sym (get_or-drop k all 0 []) ∙ ap (λ xs. get_or xs 0 []) e

entry_there : (all : List (List ℕ)) (k : ℕ) (entry : List ℕ) (entries : List (List ℕ)) → drop k all ≡ entry ∷ entries → k < length all
entry_there all k entry entries e =
    let h : 1 ≤ length (drop k all) = rw e (omega arith) in omega (arith, length-drop k all)

after_entry : (all : List (List ℕ)) (k : ℕ) (entry : List ℕ) (entries : List (List ℕ)) → drop k all ≡ entry ∷ entries → drop (k + 1) all ≡ entries
after_entry all k entry entries e = sym (drop-drop 1 k all) ∙ ap (drop 1) e

at_end : (all : List (List ℕ)) (k : ℕ) → drop k all ≡ [] → length all ≤ k
at_end all k e = let h : length (drop k all) ≡ 0 = ap length e in omega (arith, length-drop k all)

module _ (size : ℕ) (all : List (List ℕ)) (word : List ℕ) where
  -- the nearest base entry before k, or none from 1 on
  abbrev NearestBefore : ℕ → Option ℕ → Type 0
  NearestBefore k None = (j : ℕ) → j < k → 1 ≤ j → is_starred (entry_at all j) ≡ true
  NearestBefore k (Some p) =
      (1 ≤ p) × (p < k) × (is_starred (entry_at all p) ≡ false) × ((j : ℕ) → j < k → p < j → is_starred (entry_at all j) ≡ true)

  -- a synonym changes nothing of it
  past_synonym : (k : ℕ) (base : Option ℕ) → NearestBefore k base → is_starred (entry_at all k) ≡ true → NearestBefore (k + 1) base
  past_synonym k None h e = below_more (λ j. 1 ≤ j → is_starred (entry_at all j) ≡ true) k h (λ _. e)
  past_synonym k (Some p) h e =
      (h.0, omega (arith, h.1), h.2, below_more (λ j. p < j → is_starred (entry_at all j) ≡ true) k h.3 (λ _. e))

  past_base : (k : ℕ) → 1 ≤ k → is_starred (entry_at all k) ≡ false → NearestBefore (k + 1) (Some k)
  past_base k h e = (h, omega arith, e, λ j below above. absurd (omega arith))

  nearest_at : (k : ℕ) (base : Option ℕ) (starred : Bool) → 1 ≤ k → NearestBefore k base → is_starred (entry_at all k) ≡ starred → NearestBefore (k + 1) (cond starred base (Some k))
  nearest_at k base true h near e = past_synonym k base near e
  nearest_at k base false h near e = past_base k h e

  abbrev NoneBefore : ℕ → Type 0
  NoneBefore k = (j : ℕ) → j < k → ¬ (EntryMatches size all word j)

  abbrev Answers : Option ℕ → Type 0
  Answers answer = MatchOption answer ((j : ℕ) → ¬ (EntryMatches size all word j)) (λ base. IsLeastMatch size all word base)

  none_past : (k : ℕ) → NoneBefore k → ¬ (EntryMatches size all word k) → NoneBefore (k + 1)
  none_past k h e = below_more (λ j. ¬ (EntryMatches size all word j)) k h e

  is_base_entry : (k p : ℕ) → NearestBefore (k + 1) (Some p) → IsBaseEntryOf all k p
  is_base_entry k p h = record {
    counted = h.0;
    before = omega (arith, h.1);
    is_base = h.2;
    nearest = λ j above below. h.3 j (omega arith) above;
  }

  -- an entry that is typed, and has a base entry, is the answer where none before it matches
  at_entry : (k : ℕ) (nearest : Option ℕ) (typed : Bool) (rest : Option ℕ) → k < length all → NearestBefore (k + 1) nearest → NoneBefore k
      → is_typed size (spelling (entry_at all k)) word ≡ typed → (NoneBefore (k + 1) → Answers rest)
      → Answers (cond (typed && is_some nearest) nearest rest)
  at_entry k (Some p) true rest there near none e on = record {
    entry = k;
    matches = record { there = there; typed = e; stands_for = (p, is_base_entry k p near) };
    least = none;
    base = is_base_entry k p near;
  }
  at_entry k (Some p) false rest there near none e on =
      on (none_past k none (λ m. let h = m.typed in cc))
  at_entry k None false rest there near none e on =
      on (none_past k none (λ m. let h = m.typed in cc))
  at_entry k None true rest there near none e on =
      on (none_past k none (λ m.
      let p = m.stands_for in
      let starred = near p.0 (omega (arith, p.1.before)) p.1.counted in
      let base = p.1.is_base in cc))

  -- from an entry on, before which none matches, the search gives the base entry of the least match
  -- of all, or nothing where none matches
  answered : (base : Option ℕ) (k : ℕ) (entries : List (List ℕ)) → drop k all ≡ entries → 1 ≤ k → NearestBefore k base → NoneBefore k
      → Answers (entry_from size word base k entries)
  answered base k [] e h near none = λ j m. none j (omega (arith, at_end all k e, m.there)) m
  answered base k (entry ∷ entries) e h near none =
      let same = from_entry all k entry entries e in
      let starred = is_starred entry in
      let nearest = cond starred base (Some k) in
      let near_on = nearest_at k base starred h near (ap is_starred same) in
      at_entry k nearest (is_typed size (spelling entry) word) (entry_from size word nearest (k + 1) entries)
      (entry_there all k entry entries e) near_on none (ap (λ (t : List ℕ). is_typed size (spelling t) word) same)
      (λ none_on. answered nearest (k + 1) entries (after_entry all k entry entries e) (omega arith) near_on none_on)

pub which-answers : (db : Database) (column : Column) (word : List ℕ)
    → MatchOption (which db column word)
    ((k : ℕ) → ¬ (EntryMatches db.header.length (entries_of db column) word k))
    (λ answer. IsLeastMatch db.header.length (entries_of db column) word answer)
which-answers db column word =
    answered db.header.length (entries_of db column) word None 1 (drop 1 (entries_of db column)) refl (omega arith)
    (λ j below above. absurd (omega arith)) (λ j below m. let p = m.stands_for in omega (arith, p.1.counted, p.1.before))
