-- The numbers that are handed in to the routines are small.
use Rattle.std.proofs.Common.{◌≡◌, arith, ℕ, ◌<◌, ℤ, pos, negsuc, nat_lt, nat_le, Bool, true, false, ◌&&◌, if◌then◌else◌, length, refl}
use Rattle.std.specs.Prelude.{unsigned_abs}
use Rattle.std.specs.Ordering.{int_eq}
use Rattle.std.proofs.lemmas.Bool.{and_parts}
use Rattle.inform_tree.specs.Words.{is_number}
use Rattle.scott_types.specs.Database.{Database}
use Rattle.scott_types.specs.Limits.{KeepsLimits}
use Rattle.trans_specs.proofs.Lengths.{few}
use Rattle.trans_data.specs.Numbers.{byte_or_more, divisor, goal}

-- a number that isn't too wide at any width
abbrev pub is_small : ℕ → Bool
is_small n = nat_lt n 32768

pub less_small : (n : ℕ) → n < 32768 → is_small n ≡ true
less_small n h = grind (arith, h)

pub small_number : (n : ℕ) → is_small n ≡ true → is_number n ≡ true
small_number n h = grind (arith, h)

pub items_small : (db : Database) → KeepsLimits db → is_small (length db.items) ≡ true
items_small db limits =
    less_small (length db.items) (omega (arith, few 255 db.items limits.sizes.items))

pub byte_small : (z : ℤ) → is_small (byte_or_more z) ≡ true
byte_small (pos n) = from (nat_le n 255) refl where
  from : (b : Bool) → nat_le n 255 ≡ b → is_small (if b then n else 256) ≡ true
  from true h = grind (arith, h)
  from false h = refl
byte_small (negsuc n) = refl

pub goal_small : (z : ℤ) → is_small (goal z) ≡ true
goal_small z = from (int_eq z (pos 0)) where
  from : (b : Bool) → is_small (if b then 256 else byte_or_more z) ≡ true
  from true = refl
  from false = byte_small z

pub divisor_small : (z : ℤ) → is_small (divisor z) ≡ true
divisor_small z = from (nat_lt 0 (unsigned_abs z) && nat_lt (unsigned_abs z) 32768) refl where
  from : (b : Bool) → nat_lt 0 (unsigned_abs z) && nat_lt (unsigned_abs z) 32768 ≡ b
      → is_small (if b then unsigned_abs z else 32767) ≡ true
  from true h =
      (and_parts (nat_lt 0 (unsigned_abs z)) (nat_lt (unsigned_abs z) 32768) h).1
  from false h = refl
