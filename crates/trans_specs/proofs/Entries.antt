-- What the entries of an array are that shows a part of the state.
use Rattle.std.proofs.Common.{◌≡◌, arith, ℕ, zero, suc, ◌<◌, ℤ, pos, Bool, true, false, not, List, [], ◌∷◌, ◌++◌, length, slice_get, Some, refl}
use Rattle.std.specs.Prelude.{slice_index}
use Rattle.std.specs.Ordering.{int_eq}
use Rattle.trans_specs.specs.Tables.{bit}
use Rattle.trans_specs.specs.Views.{naturals}

-- a bit isn't 0 where it stands for true
pub bit_tells : (b : Bool) → not (int_eq (pos (bit b)) (pos 0)) ≡ b
bit_tells true = refl
bit_tells false = refl

-- the entry of an item's place, with the guard after the last one
pub place_at : (places : List ℕ) (guard : ℤ) (i : ℕ) → i < length places
    → slice_get (naturals places ++ guard ∷ []) i ≡ Some (pos (slice_index places i))
place_at [] guard i less = absurd (omega (arith, less))
place_at (x ∷ xs) guard zero less = refl
place_at (x ∷ xs) guard (suc i) less = place_at xs guard i (omega (arith, less))
