-- What holds of each element of a list.
use Rattle.std.proofs.Common.{◌≡◌, arith, ℕ, zero, suc, ◌<◌, Bool, true, List, [], ◌∷◌, ◌++◌, map, length, slice_index_or}
use Rattle.std.specs.List.{AllByRecursion, list_all}
use Rattle.std.proofs.lemmas.Bool.{and_parts}

pub one_of_all : {X : Type 0} (P : X → Type 0) (xs : List X) (k : ℕ) (none : X)
    → AllByRecursion P xs → k < length xs → P (slice_index_or xs k none)
one_of_all P [] k none h less = absurd (omega (arith, less))
one_of_all P (x ∷ xs) zero none h less = h.0
one_of_all P (x ∷ xs) (suc k) none h less = one_of_all P xs k none h.1 (omega (arith, less))

module _ {X : Type 0} (P : X → Type 0) where
  pub of_both : (xs ys : List X) → AllByRecursion P xs → AllByRecursion P ys
      → AllByRecursion P (xs ++ ys)
  of_both [] ys h k = k
  of_both (x ∷ xs) ys h k = (h.0, of_both xs ys h.1 k)

  pub of_first : (xs ys : List X) → AllByRecursion P (xs ++ ys) → AllByRecursion P xs
  of_first [] ys h = tt
  of_first (x ∷ xs) ys h = (h.0, of_first xs ys h.1)

  pub of_rest : (xs ys : List X) → AllByRecursion P (xs ++ ys) → AllByRecursion P ys
  of_rest [] ys h = h
  of_rest (x ∷ xs) ys h = of_rest xs ys h.1

  pub of_three : (xs ms ys : List X) → AllByRecursion P (xs ++ ys) → AllByRecursion P ms
      → AllByRecursion P (xs ++ (ms ++ ys))
  of_three xs ms ys h k = of_both xs (ms ++ ys) (of_first xs ys h)
      (of_both ms ys k (of_rest xs ys h))

pub each_passes : {X : Type 0} (test : X → Bool) (xs : List X) → list_all test xs ≡ true
    → AllByRecursion (λ x. test x ≡ true) xs
each_passes test [] h = tt
each_passes test (x ∷ xs) h = (
  (and_parts (test x) (list_all test xs) h).0,
  each_passes test xs (and_parts (test x) (list_all test xs) h).1,
)

pub each_with : {X : Type 0} (P Q : X → Type 0) → ((x : X) → P x → Q x) → (xs : List X)
    → AllByRecursion P xs → AllByRecursion Q xs
each_with P Q by [] h = tt
each_with P Q by (x ∷ xs) h = (by x h.0, each_with P Q by xs h.1)

module _ {X Y : Type 0} (P : Y → Type 0) (f : X → Y) where
  pub of_sources : (xs : List X) → AllByRecursion P (map f xs)
      → AllByRecursion (λ x. P (f x)) xs
  of_sources [] h = tt
  of_sources (x ∷ xs) h = (h.0, of_sources xs h.1)

  pub of_images : (xs : List X) → AllByRecursion (λ x. P (f x)) xs
      → AllByRecursion P (map f xs)
  of_images [] h = tt
  of_images (x ∷ xs) h = (h.0, of_images xs h.1)
