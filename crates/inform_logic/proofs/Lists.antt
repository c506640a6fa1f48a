-- Lists by what is left of them from a place on.
use Rattle.std.proofs.Common.{◌≡◌, ◌∙◌, arith, ℕ, zero, suc, ◌+◌, ◌<◌, true, is_some, length, refl, List, [], ◌∷◌, map, drop, slice_get, Some, option_map, ap, add-one}
use Rattle.std.proofs.lemmas.Option.{slice_get-map}

-- the element at which the rest begins
pub at_rest : {X : Type 0} (xs : List X) (i : ℕ) {x : X} {rest : List X} → drop i xs ≡ x ∷ rest
    → slice_get xs i ≡ Some x
at_rest [] zero h = cc
at_rest [] (suc i) h = cc
at_rest (y ∷ ys) zero h = cc
at_rest (y ∷ ys) (suc i) h = at_rest ys i h

-- and in a list that is made of this one
pub map_at_rest : {X Y : Type 0} (f : X → Y) (xs : List X) (i : ℕ) {x : X} {rest : List X}
    → drop i xs ≡ x ∷ rest → slice_get (map f xs) i ≡ Some (f x)
map_at_rest f xs i h = slice_get-map f xs i ∙ ap (option_map f) (at_rest xs i h)

by_suc : {X : Type 0} (xs : List X) (i : ℕ) {x : X} {rest : List X} → drop i xs ≡ x ∷ rest
    → drop (suc i) xs ≡ rest
by_suc [] zero h = cc
by_suc [] (suc i) h = cc
by_suc (y ∷ ys) zero h = cc
by_suc (y ∷ ys) (suc i) h = by_suc ys i h

-- what is left after that element
pub after_rest : {X : Type 0} (xs : List X) (i : ℕ) {x : X} {rest : List X} → drop i xs ≡ x ∷ rest
    → drop (i + 1) xs ≡ rest
after_rest xs i h = rw add-one (by_suc xs i h)

-- an element before the end is there
pub is_there : {X : Type 0} (xs : List X) (i : ℕ) → i < length xs → is_some (slice_get xs i) ≡ true
is_there [] i few = absurd (omega (arith, few))
is_there (x ∷ xs) zero few = refl
is_there (x ∷ xs) (suc i) few = is_there xs i (omega (arith, few))
