-- The first place that passes, told as a place or none, and as a place or the length.
use Rattle.std.proofs.Common.{◌≡◌, ℕ, ◌≤◌, List, length, Bool, true, false, cond, ltb, Some, None, refl, arith}
use Rattle.std.specs.Prelude.{position}
use Rattle.std.specs.List.{position_or_len}
use Rattle.std.proofs.lemmas.List.Sums.{prefix_len-le-length}
use Rattle.std.proofs.lemmas.Bool.Decides.{nat_tests}

at_place : (b : Bool) (n i : ℕ) → cond b (Some n) None ≡ Some i → i ≡ n
at_place true n i e = cc
at_place false n i e = cc

pub place-position : {X : Type 0} (p : X → Bool) (xs : List X) (i : ℕ) → position p xs ≡ Some i → i ≡ position_or_len p xs
place-position p xs i e = at_place (ltb (position_or_len p xs) (length xs)) (position_or_len p xs) i e

no_place : (b : Bool) (n : ℕ) → cond b (Some n) None ≡ None → b ≡ false
no_place true n e = cc
no_place false n e = refl

end : (n m : ℕ) → ltb n m ≡ false → n ≤ m → m ≡ n
end n m e h = grind (arith, nat_tests)

pub length-position : {X : Type 0} (p : X → Bool) (xs : List X) → position p xs ≡ None → length xs ≡ position_or_len p xs
length-position p xs e =
    end (position_or_len p xs) (length xs) (no_place (ltb (position_or_len p xs) (length xs)) (position_or_len p xs) e) (prefix_len-le-length _ xs)
