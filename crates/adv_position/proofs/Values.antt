-- Which numbers the values of a stopped play have.
use Rattle.std.proofs.Common.{◌≡◌, ℕ, suc, zero, ◌-◌, ◌≤◌, Bool, true, false, List, [], ◌∷◌, length, ℤ, pos, negsuc, refl, arith}
use Rattle.std.specs.Prelude.{IsTrue, int_le, ◌≤ℤ◌, nat_le}
use Rattle.std.specs.List.{list_all}
use Rattle.std.proofs.lemmas.Bool.{and_parts, and_from, leb-true, le-leb, ltb-true, lt-ltb}
use Rattle.std.proofs.lemmas.Int.{ints}
use Rattle.adv_text.specs.Laws.{Fits32}
use Rattle.scott_types.specs.Database.{Database}
use Rattle.scott_types.specs.Limits.{KeepsLimits, is_number}
use Rattle.scott_types.specs.State.{is_room_of, is_place}
use Rattle.adv_position.specs.Numbers.{amount, bit, is_one, is_within}
use Rattle.adv_position.specs.Reading.{highest_room}
use Rattle.adv_position.proofs.Pieces.{Stands, are_within}

-- ---- orders as tests

pub int_le-from : (a b : ℤ) → a ≤ℤ b → int_le a b ≡ true
int_le-from a b h = grind (arith, ints)

pub int_le-true : (a b : ℤ) → int_le a b ≡ true → a ≤ℤ b
int_le-true a b h = grind (arith, ints)

pub all-to : {X : Type 0} (p q : X → Bool) → ((x : X) → IsTrue (p x) → IsTrue (q x)) → (xs : List X)
    → IsTrue (list_all p xs) → IsTrue (list_all q xs)
all-to p q step [] all = refl
all-to p q step (x ∷ xs) all =
    let parts = and_parts (p x) (list_all p xs) all in
    and_from _ _ (step x parts.0) (all-to p q step xs parts.1)

-- ---- numbers of 32 bits

-- the ends lie within 32 bits, and so does what is between them
within-fits : (least most z : ℤ) → Fits32 least → Fits32 most → IsTrue (is_within least most z)
    → Fits32 z
within-fits least most z low high there =
    let parts = and_parts (int_le least z) (int_le z most) there in
    let from = int_le-true least z parts.0 in
    let to = int_le-true z most parts.1 in
    (omega (arith, ints), omega (arith, ints))

pub numbers-stand : (least most : ℤ) → Fits32 least → Fits32 most → Stands (λ z. z) (λ z. z) least
    most
numbers-stand least most low high = record {
  number = λ z there. refl;
  value = λ z. refl;
  fits = λ z there. within-fits least most z low high there;
}

amount-back : (most z : ℤ) → IsTrue (is_within (pos 0) most z) → pos (amount z) ≡ z
amount-back most (pos n) there = refl
amount-back most (negsuc n) there = absurd (cc)

pub amounts-stand : (most : ℕ) → most ≤ 2147483647 → Stands amount pos (pos 0) (pos most)
amounts-stand most small = record {
  number = λ z there. amount-back (pos most) z there;
  value = λ n. refl;
  fits = λ z there. within-fits (pos 0) (pos most) z (omega (arith, ints), omega (arith, ints))
      (omega (arith, ints), omega (arith, ints)) there;
}

bit-back : (z : ℤ) → IsTrue (is_within (pos 0) (pos 1) z) → bit (is_one z) ≡ z
bit-back (pos zero) there = refl
bit-back (pos (suc zero)) there = refl
bit-back (pos (suc (suc n))) there =
    let parts = and_parts (int_le (pos 0) (pos (suc (suc n)))) (int_le (pos (suc (suc n))) (pos 1))
    there in
    let to : pos (suc (suc n)) ≤ℤ pos 1 = int_le-true (pos (suc (suc n))) (pos 1) parts.1 in
    absurd (omega (arith, ints))
bit-back (negsuc n) there = absurd (cc)

one-of : (b : Bool) → is_one (bit b) ≡ b
one-of true = refl
one-of false = refl

pub bits-stand : Stands is_one bit (pos 0) (pos 1)
bits-stand = record {
  number = bit-back;
  value = one-of;
  fits = λ z there. within-fits (pos 0) (pos 1) z (omega (arith, ints), omega (arith, ints))
      (omega (arith, ints), omega (arith, ints)) there;
}

pub bit-within : (b : Bool) → IsTrue (is_within (pos 0) (pos 1) (bit b))
bit-within true = refl
bit-within false = refl

pub bits-within : (bs : List Bool) → IsTrue (are_within bit (pos 0) (pos 1) bs)
bits-within [] = refl
bits-within (b ∷ bs) = and_from _ _ (bit-within b) (bits-within bs)

-- ---- amounts

pub amount-within : (n most : ℕ) → n ≤ most → IsTrue (is_within (pos 0) (pos most) (pos n))
amount-within n most h = and_from _ _ (int_le-from (pos 0) (pos n) (omega (arith, ints)))
    (int_le-from (pos n) (pos most) (omega (arith, ints)))

pub within-amount : (n most : ℕ) → IsTrue (is_within (pos 0) (pos most) (pos n)) → n ≤ most
within-amount n most there =
    let to = int_le-true (pos n) (pos most) (and_parts (int_le (pos 0) (pos n)) _ there).1 in
    omega (arith, ints)

pub some_rooms : (db : Database) → KeepsLimits db → 1 ≤ length db.rooms
some_rooms db limits = leb-true _ _ (and_parts (nat_le 1 (length db.rooms)) _ limits.sizes.rooms).0

pub few_rooms : (db : Database) → KeepsLimits db → length db.rooms - 1 ≤ 2147483647
few_rooms db limits =
    let few = leb-true _ _ (and_parts (nat_le 1 (length db.rooms)) _ limits.sizes.rooms).1 in
    omega arith

pub room-within : (db : Database) (n : ℕ) → IsTrue (is_room_of db n)
    → IsTrue (is_within (pos 0) (highest_room db) (pos n))
room-within db n there = let below = ltb-true n (length db.rooms) there in amount-within n
    (length db.rooms - 1) (omega arith)

pub within-room : (db : Database) (n : ℕ) → KeepsLimits db
    → IsTrue (is_within (pos 0) (highest_room db) (pos n)) → IsTrue (is_room_of db n)
within-room db n limits there =
    let some = some_rooms db limits in
    let to = within-amount n (length db.rooms - 1) there in
    lt-ltb n (length db.rooms) (omega arith)

pub place-within : (n : ℕ) → IsTrue (is_place n) → IsTrue (is_within (pos 0) (pos 255) (pos n))
place-within n there = amount-within n 255 (leb-true n 255 there)

pub within-place : (n : ℕ) → IsTrue (is_within (pos 0) (pos 255) (pos n)) → IsTrue (is_place n)
within-place n there = le-leb n 255 (within-amount n 255 there)

-- ---- the light

pub light-fits : (db : Database) → KeepsLimits db → Fits32 db.header.light
light-fits db limits =
    let h = db.header in
    let all = limits.header.numbers in
    let carry = and_parts (is_number h.carry) _ (and_parts (is_number h.unused) _ all).1 in
    let light = and_parts (is_number h.light) _ (and_parts (is_number h.treasures) _ carry.1).1 in
    let parts = and_parts (int_le (negsuc 2147483647) h.light) (int_le h.light (pos 2147483647))
    light.0 in
    (int_le-true _ _ parts.0, int_le-true _ _ parts.1)

pub least-fits : Fits32 (negsuc 0)
least-fits = (omega (arith, ints), omega (arith, ints))

pub counter-fits : Fits32 (pos 32767)
counter-fits = (omega (arith, ints), omega (arith, ints))
