-- Tables of names and values, by the places of names.
use Rattle.std.proofs.Common.{◌≡◌, ◌∙◌, arith, ℕ, zero, suc, ◌+◌, ◌≤◌, ℤ, pos, Bool, true, false, cond, List, [], ◌∷◌, ◌++◌, length, Option, Some, None, refl, sym, ap}
use Rattle.std.specs.Prelude.{map, option_map, option_and_then, slice_get, if◌then◌else◌, replicate, is_some}
use Rattle.std.specs.List.{position_from}
use Rattle.std.proofs.lemmas.Option.{slice_get-get_or}
use Rattle.std.specs.Prelude.{slice_index_or, slice_set, ◌<◌}
use Rattle.inform_meaning.specs.Tables.{same_name, found, updated}
use Rattle.inform_meaning.specs.Worlds.{bound}
use Rattle.inform_worlds.specs.Scopes.{table_of, place_in, set_if_any}

-- a search that counts from i on
from-place : (name : List ℕ) (i : ℕ) (names : List (List ℕ))
    → position_from (same_name name) i names ≡ option_map (λ k. k + i) (place_in name names)
from-place name i [] = refl
from-place name i (other ∷ names) = by (same_name name other) (from-place name (i + 1) names) where
  next : (o : Option ℕ)
      → option_map (λ k. k + (i + 1)) o ≡ option_map (λ k. k + i) (option_map suc o)
  next None = refl
  next (Some k) = ap Some (omega arith)

  by : (b : Bool)
      → position_from (same_name name) (i + 1) names ≡ option_map (λ k. k + (i + 1)) (place_in name names)
      → cond b (Some i) (position_from (same_name name) (i + 1) names) ≡ option_map (λ k. k + i) (if b then Some 0 else option_map suc (place_in name names))
  by true h = ap Some (omega arith)
  by false h = h ∙ next (place_in name names)

pub place_is : (name : List ℕ) (names : List (List ℕ))
    → position_from (same_name name) 0 names ≡ place_in name names
place_is name names = from-place name 0 names ∙ plain (place_in name names) where
  plain : (o : Option ℕ) → option_map (λ k. k + 0) o ≡ o
  plain None = refl
  plain (Some k) = ap Some (omega arith)

-- what a table has under a name is the value at the place of that name
pub found_place : (name : List ℕ) (names : List (List ℕ)) (vs : List ℤ)
    → found name (table_of names vs) ≡ option_and_then (slice_get vs) (place_in name names)
found_place name [] vs = refl
found_place name (other ∷ names) [] = none (place_in name (other ∷ names)) where
  none : (o : Option ℕ) → ◌≡◌ {A = Option ℤ} None (option_and_then (slice_get []) o)
  none None = refl
  none (Some k) = refl
found_place name (other ∷ names) (v ∷ vs) =
    by (same_name name other) (found_place name names vs) where
      next : (o : Option ℕ)
          → option_and_then (slice_get vs) o ≡ option_and_then (slice_get (v ∷ vs)) (option_map suc o)
      next None = refl
      next (Some k) = refl

      by : (b : Bool)
          → found name (table_of names vs) ≡ option_and_then (slice_get vs) (place_in name names)
          → (if b then Some v else found name (table_of names vs)) ≡ option_and_then (slice_get (v ∷ vs)) (if b then Some 0 else option_map suc (place_in name names))
      by true h = refl
      by false h = h ∙ next (place_in name names)

-- a table whose value is set at the place of a name is updated under that name
pub updated_place : (name : List ℕ) (x : ℤ) (names : List (List ℕ)) (vs : List ℤ)
    → table_of names (set_if_any (place_in name names) x vs) ≡ updated name x (table_of names vs)
updated_place name x [] vs = refl
updated_place name x (other ∷ names) [] = none (place_in name (other ∷ names)) where
  none : (o : Option ℕ) → table_of (other ∷ names) (set_if_any o x []) ≡ []
  none None = refl
  none (Some k) = refl
updated_place name x (other ∷ names) (v ∷ vs) =
    by (same_name name other) (updated_place name x names vs) where
      next : (o : Option ℕ)
          → table_of (other ∷ names) (set_if_any (option_map suc o) x (v ∷ vs)) ≡ (other, v) ∷ table_of names (set_if_any o x vs)
      next None = refl
      next (Some k) = refl

      by : (b : Bool)
          → table_of names (set_if_any (place_in name names) x vs) ≡ updated name x (table_of names vs)
          → table_of (other ∷ names) (set_if_any (if b then Some 0 else option_map suc (place_in name names)) x (v ∷ vs)) ≡ (if b then (other, x) ∷ table_of names vs else (other, v) ∷ updated name x (table_of names vs))
      by true h = refl
      by false h = next (place_in name names) ∙ ap (λ es. (other, v) ∷ es) h

-- arguments, and 0 for each local without one
pub table_bound : (names : List (List ℕ)) (vs : List ℤ) (k : ℕ) → length names ≤ length vs + k
    → table_of names (vs ++ replicate k (pos 0)) ≡ bound names vs
table_bound [] vs k h = refl
table_bound (name ∷ names) (v ∷ vs) k h =
    ap (λ es. (name, v) ∷ es) (table_bound names vs k (omega (arith, h)))
table_bound (name ∷ names) [] zero h = absurd (omega (arith, h))
table_bound (name ∷ names) [] (suc k) h =
    ap (λ es. (name, pos 0) ∷ es) (table_bound names [] k (omega (arith, h)))

-- ---- a value at its place

slice_get-past : (vs : List ℤ) (i : ℕ) → length vs ≤ i → slice_get vs i ≡ None
slice_get-past [] i h = refl
slice_get-past (v ∷ vs) zero h = absurd (omega (arith, h))
slice_get-past (v ∷ vs) (suc i) h = slice_get-past vs i (omega (arith, h))

set-past : (vs : List ℤ) (i : ℕ) (x : ℤ) → length vs ≤ i → slice_set vs i x ≡ vs
set-past [] i x h = refl
set-past (v ∷ vs) zero x h = absurd (omega (arith, h))
set-past (v ∷ vs) (suc i) x h = ap (λ vs. v ∷ vs) (set-past vs i x (omega (arith, h)))

module _ (name : List ℕ) (names : List (List ℕ)) (vs : List ℤ) where
  pub got : (place : ℕ) → place_in name names ≡ Some place → place < length vs
      → Some (slice_index_or vs place (pos 0)) ≡ found name (table_of names vs)
  got place is within =
      sym (found_place name names vs ∙ ap (option_and_then (slice_get vs)) is ∙ slice_get-get_or vs place (pos 0) within)

  pub got_none : place_in name names ≡ None → None ≡ found name (table_of names vs)
  got_none is = sym (found_place name names vs ∙ ap (option_and_then (slice_get vs)) is)

  pub put_at : (place : ℕ) (x : ℤ) → place_in name names ≡ Some place
      → table_of names (slice_set vs place x) ≡ updated name x (table_of names vs)
  put_at place x is =
      ap (λ o. table_of names (set_if_any o x vs)) (sym is) ∙ updated_place name x names vs

  pub put_none : (x : ℤ) → place_in name names ≡ None
      → table_of names vs ≡ updated name x (table_of names vs)
  put_none x is =
      ap (λ o. table_of names (set_if_any o x vs)) (sym is) ∙ updated_place name x names vs

  pub is_there : (place : ℕ) → place_in name names ≡ Some place → place < length vs
      → true ≡ is_some (found name (table_of names vs))
  is_there place is within = ap is_some (got place is within)

  pub is_not_there : place_in name names ≡ None → false ≡ is_some (found name (table_of names vs))
  is_not_there is = ap is_some (got_none is)

-- ---- a list that is mapped

pub map_get : {X Y : Type 0} (f : X → Y) (xs : List X) (i : ℕ)
    → slice_get (map f xs) i ≡ option_map f (slice_get xs i)
map_get f [] i = refl
map_get f (x ∷ xs) zero = refl
map_get f (x ∷ xs) (suc i) = map_get f xs i
