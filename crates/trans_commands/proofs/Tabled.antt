-- Entries of the tables of items and nouns.
use Rattle.std.proofs.Common.{◌≡◌, arith, ℕ, zero, suc, ◌<◌, pos, nat_eq, false, List, [], ◌∷◌, map, length, drop, slice_get, Some, refl}
use Rattle.std.specs.Prelude.{slice_index_or}
use Rattle.trans_specs.specs.Tables.{guarded}
use Rattle.trans_specs.specs.Views.{naturals}

-- a noun from 1 on isn't 0
pub some_noun : (noun : ℕ) → 0 < noun → nat_eq noun 0 ≡ false
some_noun noun some = grind (arith, some)

-- the entry of an element in a guarded table
pub tabled : {X : Type 0} (f : X → ℕ) (xs : List X) (i : ℕ) {x : X} {rest : List X}
    → drop i xs ≡ x ∷ rest → slice_get (naturals (guarded (map f xs))) i ≡ Some (pos (f x))
tabled f [] zero h = cc
tabled f [] (suc i) h = cc
tabled f (y ∷ ys) zero h = cc
tabled f (y ∷ ys) (suc i) h = tabled f ys i h

-- the same by its number
pub tabled_at : {X : Type 0} (f : X → ℕ) (none : X) (xs : List X) (i : ℕ) → i < length xs
    → slice_get (naturals (guarded (map f xs))) i ≡ Some (pos (f (slice_index_or xs i none)))
tabled_at f none [] i less = absurd (omega (arith, less))
tabled_at f none (y ∷ ys) zero less = refl
tabled_at f none (y ∷ ys) (suc i) less = tabled_at f none ys i (omega (arith, less))
