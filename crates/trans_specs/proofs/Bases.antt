-- The base of an entry is its base entry in the rules.
use Rattle.std.proofs.Common.{◌≡◌, ◌∙◌, arith, ℕ, zero, suc, ◌+◌, ◌<◌, ◌≤◌, Bool, true, false, if◌then◌else◌, List, [], ◌∷◌, drop, length, slice_index, slice_index_or, Option, Some, None, refl, sym, ap, subst, true≢false, eq-or-lt_of_le, inl, inr, ◌⊎◌}
use Rattle.std.specs.Prelude.{IsTrue, IsFalse}
use Rattle.scott_types.specs.ItemText.{is_starred}
use Rattle.scott_rules.specs.Laws.{entry_at, IsBaseEntryOf}
use Rattle.inform_logic.proofs.Lists.{after_rest}
use Rattle.trans_specs.specs.Tables.{or_zero, bases_from}
use Rattle.trans_specs.specs.Laws.{BaseIs, BasesAreBaseEntries}

-- the entry with which what is left begins
first_left : (xs : List (List ℕ)) (i : ℕ) {x : List ℕ} {rest : List (List ℕ)}
    → drop i xs ≡ x ∷ rest → entry_at xs i ≡ x
first_left [] zero h = cc
first_left [] (suc i) h = cc
first_left (y ∷ ys) zero h = ap (λ (zs : List (List ℕ)). slice_index_or zs 0 []) h
first_left (y ∷ ys) (suc i) h = first_left ys i h

module _ (entries : List (List ℕ)) where
  -- the nearest base entry at or before an entry
  abbrev BaseAt : Option ℕ → ℕ → Type 0
  BaseAt None k = (j : ℕ) → 1 ≤ j → j ≤ k → IsTrue (is_starred (entry_at entries j))
  BaseAt (Some b) k = IsBaseEntryOf entries k b

  base_is : (o : Option ℕ) (k : ℕ) → BaseAt o k → BaseIs entries k (or_zero o)
  base_is None k h = λ b base.
      true≢false (sym (h b base.counted base.before) ∙ base.is_base)
  base_is (Some zero) k h = absurd (omega (arith, h.counted))
  base_is (Some (suc b)) k h = h

  -- up to this place, or at it
  or_at : (i j : ℕ) → j ≤ suc i → IsTrue (is_starred (entry_at entries (suc i)))
      → (j ≤ i → IsTrue (is_starred (entry_at entries j)))
      → IsTrue (is_starred (entry_at entries j))
  or_at i j few here before = by (eq-or-lt_of_le few) where
    by : (j ≡ suc i) ⊎ (j < suc i) → IsTrue (is_starred (entry_at entries j))
    by (inl same) = subst (λ (k : ℕ). IsTrue (is_starred (entry_at entries k))) (sym same) here
    by (inr less) = before (omega (arith, less))

  starred : (o : Option ℕ) (i : ℕ) → IsTrue (is_starred (entry_at entries (suc i))) → BaseAt o i
      → BaseAt o (suc i)
  starred None i here h = λ j one few. or_at i j few here (λ before. h j one before)
  starred (Some b) i here h = record {
    counted = h.counted;
    before = omega (arith, h.before);
    is_base = h.is_base;
    nearest = λ j after few. or_at i j few here (λ before. h.nearest j after before);
  }

  own_base : (i : ℕ) → IsFalse (is_starred (entry_at entries (suc i)))
      → BaseAt (Some (suc i)) (suc i)
  own_base i here = record {
    counted = omega arith;
    before = omega arith;
    is_base = here;
    nearest = λ j after few. absurd (omega (arith, after, few));
  }

  -- after an entry whose base is known, the table of bases has each base entry of the rules
  walk : (rest : List (List ℕ)) (base : Option ℕ) (i n k : ℕ) → drop (suc i) entries ≡ rest
      → BaseAt base i → n < length rest → k ≡ suc i + n
      → BaseIs entries k (slice_index (bases_from base (suc i) rest) n)
  walk [] base i n k left before less e = absurd (omega (arith, less))
  walk (entry ∷ rest) base i n k left before less e = from (is_starred entry) refl
      (λ o at m few e'. subst
      (λ (j : ℕ). BaseIs entries k (slice_index (bases_from o j rest) m)) next
      (walk rest o (suc i) m k (later left) at few e')) where
        next : suc (suc i) ≡ suc i + 1
        next = omega arith

        later : drop (suc i) entries ≡ entry ∷ rest → drop (suc (suc i)) entries ≡ rest
        later h = subst (λ (j : ℕ). drop j entries ≡ rest) (sym next)
            (after_rest entries (suc i) h)

        here : entry_at entries (suc i) ≡ entry
        here = first_left entries (suc i) left

        nearest : (b : Bool) → is_starred entry ≡ b
            → BaseAt (if b then base else Some (suc i)) (suc i)
        nearest true is = starred base i (ap is_starred here ∙ is) before
        nearest false is = own_base i (ap is_starred here ∙ is)

        pick : (o : Option ℕ) (n : ℕ) → BaseAt o (suc i) → n < length (entry ∷ rest)
            → k ≡ suc i + n
            → ((m : ℕ) → m < length rest → k ≡ suc (suc i) + m
            → BaseIs entries k (slice_index (bases_from o (suc i + 1) rest) m))
            → BaseIs entries k (slice_index (or_zero o ∷ bases_from o (suc i + 1) rest) n)
        pick o zero at less e more = subst (λ (j : ℕ). BaseIs entries j (or_zero o)) same
            (base_is o (suc i) at) where
              same : suc i ≡ k
              same = omega (arith, e)
        pick o (suc m) at less e more = more m (omega (arith, less)) (omega (arith, e))

        from : (b : Bool) → is_starred entry ≡ b
            → ((o : Option ℕ) → BaseAt o (suc i) → (m : ℕ) → m < length rest
            → k ≡ suc (suc i) + m
            → BaseIs entries k (slice_index (bases_from o (suc i + 1) rest) m))
            → BaseIs entries k (slice_index (or_zero (if b then base else Some (suc i))
            ∷ bases_from (if b then base else Some (suc i)) (suc i + 1) rest) n)
        from b is more = pick (if b then base else Some (suc i)) n (nearest b is) less e
            (more (if b then base else Some (suc i)) (nearest b is))

pub bases_are_base_entries : BasesAreBaseEntries
bases_are_base_entries [] k one less = absurd (omega (arith, less))
bases_are_base_entries (entry ∷ entries) zero one less = absurd (omega (arith, one))
bases_are_base_entries (entry ∷ entries) (suc n) one less =
    walk (entry ∷ entries) entries None 0 n (suc n) refl
    (λ j some few. absurd (omega (arith, some, few))) (omega (arith, less)) (omega arith)
