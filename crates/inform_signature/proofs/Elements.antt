-- Elements of lists.
use Rattle.std.proofs.Common.{◌≡◌, ◌∙◌, arith, ℕ, zero, suc, ◌+◌, ◌<◌, ◌⊎◌, inl, inr, List, [], ◌∷◌, ◌++◌, drop, length, slice_get, Some, ap, subst}
use Rattle.std.specs.Prelude.{slice_index_or}
use Rattle.std.specs.List.{AllByRecursion}

-- what holds of each of a list holds of one that is in it
pub one_in : {X : Type 0} (P : X → Type 0) (xs : List X) {x : X} (at : ℕ) → AllByRecursion P xs
    → slice_get xs at ≡ Some x → P x
one_in P [] at h there = cc
one_in {X} P (y ∷ ys) {x} zero h there = subst P (first there) h.0 where
  first : Some y ≡ Some x → y ≡ x
  first is = cc
one_in P (y ∷ ys) (suc at) h there = one_in P ys at h.1 there

-- what is in the first or the second of two lists is in both
pub in_first : {X : Type 0} {x : X} (xs ys : List X) (at : ℕ) → slice_get xs at ≡ Some x
    → (n : ℕ) × (slice_get (xs ++ ys) n ≡ Some x)
in_first [] ys at h = cc
in_first (y ∷ xs) ys zero h = (0, h)
in_first (y ∷ xs) ys (suc at) h = let more = in_first xs ys at h in (suc more.0, more.1)

pub in_second : {X : Type 0} {x : X} (xs ys : List X) (at : ℕ) → slice_get ys at ≡ Some x
    → (n : ℕ) × (slice_get (xs ++ ys) n ≡ Some x)
in_second [] ys at h = (at, h)
in_second (y ∷ xs) ys at h = let more = in_second xs ys at h in (suc more.0, more.1)

-- what is in both is in the first or the second
pub in_either : {X : Type 0} {x : X} (xs ys : List X) (at : ℕ) → slice_get (xs ++ ys) at ≡ Some x
    → ((n : ℕ) × (slice_get xs n ≡ Some x)) ⊎ ((n : ℕ) × (slice_get ys n ≡ Some x))
in_either [] ys at h = inr (at, h)
in_either (y ∷ xs) ys zero h = inl (0, h)
in_either {X} {x} (y ∷ xs) ys (suc at) h = by (in_either xs ys at h) where
  by : ((n : ℕ) × (slice_get xs n ≡ Some x)) ⊎ ((n : ℕ) × (slice_get ys n ≡ Some x))
      → ((n : ℕ) × (slice_get (y ∷ xs) n ≡ Some x)) ⊎ ((n : ℕ) × (slice_get ys n ≡ Some x))
  by (inl there) = inl (suc there.0, there.1)
  by (inr there) = inr there

-- the element of a number, and those after it
pub element_at : {X : Type 0} (none : X) (xs : List X) (k : ℕ) (x : X) (rest : List X)
    → drop k xs ≡ x ∷ rest
    → (k < length xs) × (slice_index_or xs k none ≡ x) × (drop (k + 1) xs ≡ rest)
element_at none [] zero x rest is = cc
element_at none [] (suc k) x rest is = cc
element_at none (y ∷ ys) zero x rest is = from is where
  from : y ∷ ys ≡ x ∷ rest → (0 < length (y ∷ ys)) × (y ≡ x) × (ys ≡ rest)
  from is = (omega arith, cc, cc)
element_at none (y ∷ ys) (suc k) x rest is = let more = element_at none ys k x rest is in
    let next : suc k + 1 ≡ suc (k + 1) = omega arith in (
      omega (arith, more.0),
      more.1,
      ap (λ n. drop n (y ∷ ys)) next ∙ more.2,
    )
