-- Entries of arrays by the lists that they hold, and numbers that are compared.
use Rattle.std.proofs.Common.{◌≡◌, arith, ℕ, zero, suc, ◌+◌, ◌-◌, ◌<◌, ◌≤◌, ℤ, pos, negsuc, nat_eq, nat_le, nat_lt, Bool, true, false, not, cond, if◌then◌else◌, List, [], ◌∷◌, ◌++◌, map, length, drop, slice_get, slice_index, slice_index_or, fold, Some, refl, ap}
use Rattle.std.specs.Ordering.{int_eq}
use Rattle.std.proofs.lemmas.Int.{ints}
use Rattle.scott_types.specs.Database.{Database}
use Rattle.trans_specs.specs.Tables.{bit}
use Rattle.trans_specs.specs.Views.{naturals}
use Rattle.trans_specs.specs.Steps.{share}
use Rattle.trans_data.specs.Numbers.{byte_or_more}

-- ---- entries

-- an entry before what follows a list
pub entry_before : {X : Type 0} (f : X → ℤ) (xs : List X) (zs : List ℤ) (i : ℕ) {x : X}
    {rest : List X} → drop i xs ≡ x ∷ rest → slice_get (map f xs ++ zs) i ≡ Some (f x)
entry_before f [] zs zero h = cc
entry_before f [] zs (suc i) h = cc
entry_before f (y ∷ ys) zs zero {x} {rest} h =
    ap (λ ls. slice_get (map f ls ++ zs) 0) h
entry_before f (y ∷ ys) zs (suc i) h = entry_before f ys zs i h

-- the same by its number
pub number_before : (xs : List ℕ) (zs : List ℤ) (i : ℕ) → i < length xs
    → slice_get (naturals xs ++ zs) i ≡ Some (pos (slice_index xs i))
number_before [] zs i few = absurd (omega (arith, few))
number_before (x ∷ xs) zs zero few = refl
number_before (x ∷ xs) zs (suc i) few = number_before xs zs i (omega (arith, few))

pub flag_there : (flags : List Bool) (i : ℕ) → i < length flags
    → slice_get (naturals (map bit flags)) i ≡ Some (pos (bit (slice_index_or flags i false)))
flag_there [] i few = absurd (omega (arith, few))
flag_there (x ∷ xs) zero few = refl
flag_there (x ∷ xs) (suc i) few = flag_there xs i (omega (arith, few))

pub past_the_end : (xs : List ℕ) (i : ℕ) → nat_lt i (length xs) ≡ false → 0 ≡ slice_index xs i
past_the_end [] i h = refl
past_the_end (x ∷ xs) zero h = absurd (grind (arith, h))
past_the_end (x ∷ xs) (suc i) h = past_the_end xs i (grind (arith, h))

-- ---- counts

pub count_few : {X : Type 0} (p : X → Bool) (xs : List X) (n : ℕ)
    → fold (λ n x. n + cond (p x) 1 0) n xs ≤ n + length xs
count_few p [] n = omega arith
count_few p (x ∷ xs) n = from (p x) (λ m. count_few p xs m) where
  from : (b : Bool) → ((m : ℕ) → fold (λ n x. n + cond (p x) 1 0) m xs ≤ m + length xs)
      → fold (λ n x. n + cond (p x) 1 0) (n + cond b 1 0) xs ≤ n + length (x ∷ xs)
  from true few = omega (arith, few (n + 1))
  from false few = omega (arith, few (n + 0))

-- ---- numbers that compare

pub under : (a b : ℕ) → a < b → nat_lt a b ≡ true
under a b h = grind (arith, h)

pub is_under : (a b : ℕ) → nat_lt a b ≡ true → a < b
is_under a b h = grind (arith, h)

pub not_under : (a : ℕ) → nat_lt a a ≡ false
not_under a = grind arith

pub at_most : (a b : ℕ) → nat_le a b ≡ true → a ≤ b
at_most a b h = grind (arith, h)

-- ---- numbers

-- a count of items or a place is a number of the database exactly where it is what stands for it
pub same_byte : (n : ℕ) (z : ℤ) → n ≤ 255 → nat_eq n (byte_or_more z) ≡ int_eq (pos n) z
same_byte n (negsuc m) few = grind (arith, ints, few)
same_byte n (pos m) few = from (nat_le m 255) refl where
  from : (b : Bool) → nat_le m 255 ≡ b → nat_eq n (if b then m else 256) ≡ int_eq (pos n) (pos m)
  from true h = grind (arith, ints)
  from false h = grind (arith, ints, few, h)

pub byte_small : (z : ℤ) → byte_or_more z < 32768
byte_small (negsuc m) = omega arith
byte_small (pos m) = from (nat_le m 255) refl where
  from : (b : Bool) → nat_le m 255 ≡ b → (if b then m else 256) < 32768
  from true h = grind (arith, h)
  from false h = omega arith

-- a truth value as a number isn't 0 exactly where it holds
pub bit_nonzero : (b : Bool) → not (int_eq (pos (bit b)) (pos 0)) ≡ b
bit_nonzero true = refl
bit_nonzero false = refl

-- ---- steps

many : (n words messages rooms : ℕ) → n + 199 ≤ n - 1 + words + messages + rooms + 200
many n words messages rooms = omega arith

-- a share counts each item
pub share_items : (db : Database) → length db.items + 199 ≤ share db
share_items db = many (length db.items) _ _ _
