-- A table that is right at each of its places is right below its end.
use Rattle.std.proofs.Common.{◌≡◌, ℕ, zero, suc, ◌+◌, ◌-◌, ◌<◌, ◌≤◌, ◌⊎◌, Bool, true, false, eqb, ltb, refl, arith, inl, inr}
use Rattle.std.specs.Prelude.{◌&&◌, ◌==◌}
use Rattle.std.proofs.lemmas.Bool.Decides.{nat_tests, Decides-eqb}
use Rattle.std.proofs.lemmas.Bool.{cases_lt}
use Rattle.scott_types.specs.declared.opcodes.Opcode.TheVariants.{Nothing, Say}
use Rattle.scott_types.specs.Opcode.{opcode_of, number_of}
use Rattle.scott_types.specs.Codes.{first_number}

-- the test passes at each of the n numbers from k on
abbrev pub passes_from : (ℕ → Bool) → ℕ → ℕ → Bool
passes_from test zero k = true
passes_from test (suc n) k = test k && passes_from test n (k + 1)

and-left : (a b : Bool) → a && b ≡ true → a ≡ true
and-left true b h = refl
and-left false b h = h

and-right : (a b : Bool) → a && b ≡ true → b ≡ true
and-right true b h = h
and-right false b h = cc

first_or_later : (k i : ℕ) → k ≤ i → (i ≡ k) ⊎ (k + 1 ≤ i)
first_or_later k i h = grind arith

pub passes_within : (test : ℕ → Bool) (n k i : ℕ) → passes_from test n k ≡ true → k ≤ i → i < k + n → test i ≡ true
passes_within test zero k i h low high = absurd (omega arith)
passes_within test (suc n) k i h low high =
    elim (first_or_later k i low) [
      | inl e ↦ rw e (and-left (test k) _ h)
      | inr later ↦ passes_within test n (k + 1) i (and-right (test k) _ h) later (omega arith)
    ]

-- the opcodes of the numbers from 52 to 89
is_kept : ℕ → Bool
is_kept n = number_of (opcode_of n) == first_number n

named_kept : passes_from is_kept 38 52 ≡ true
unfolding is_kept
named_kept = refl

-- ---- the tests of a number, answered

below : (n m : ℕ) → n < m → ltb n m ≡ true
below n m h = grind (arith, nat_tests)

not_below : (n m : ℕ) → m ≤ n → ltb n m ≡ false
not_below n m h = grind (arith, nat_tests)

not_zero : (n : ℕ) → 1 ≤ n → eqb n 0 ≡ false
not_zero n h = grind (arith, nat_tests)

first_number-below : (n : ℕ) → n < 52 → first_number n ≡ n
first_number-below n h = grind (arith, nat_tests)

first_number-unused : (n : ℕ) → 90 ≤ n → n < 102 → first_number n ≡ 0
first_number-unused n h k = grind (arith, nat_tests)

first_number-above : (n : ℕ) → 102 ≤ n → first_number n ≡ n
first_number-above n h = grind (arith, nat_tests)

-- ---- the opcodes that a range of numbers has

opcode_of-message : (n : ℕ) → 1 ≤ n → n < 52 → opcode_of n ≡ Say n
opcode_of-message n h k = rw (not_zero n h, below n 52 k) refl

pub opcode_of-unused : (n : ℕ) → 90 ≤ n → n < 102 → opcode_of n ≡ Nothing
opcode_of-unused n h k = rw (not_zero n (omega arith), not_below n 52 (omega arith), not_below n 90 h, below n 102 k) refl

opcode_of-late_message : (n : ℕ) → 102 ≤ n → opcode_of n ≡ Say (n - 50)
opcode_of-late_message n h =
    rw (not_zero n (omega arith), not_below n 52 (omega arith), not_below n 90 (omega arith), not_below n 102 h) refl

-- ---- each number is kept, but for those that share a meaning

kept-below : (n : ℕ) (zero_first : (n ≡ 0) ⊎ (1 ≤ n)) → n < 52 → number_of (opcode_of n) ≡ first_number n
kept-below n (inl e) h = rw e refl
kept-below n (inr k) h = rw (opcode_of-message n k h, first_number-below n h, below n 52 h) refl

kept-from : (n : ℕ) → (n < 90) ⊎ (90 ≤ n) → 52 ≤ n → number_of (opcode_of n) ≡ first_number n
unfolding is_kept
kept-from n (inl h) k =
    (Decides-eqb (number_of (opcode_of n)) (first_number n)).0 (passes_within is_kept 38 52 n named_kept k (omega arith))
kept-from n (inr h) k = kept-above n (cases_lt n 102) h
  where
    kept-above : (n : ℕ) → (n < 102) ⊎ (102 ≤ n) → 90 ≤ n → number_of (opcode_of n) ≡ first_number n
    kept-above n (inl h) k = rw (opcode_of-unused n k h, first_number-unused n k h) refl
    kept-above n (inr h) k = rw (opcode_of-late_message n h, first_number-above n h, not_below (n - 50) 52 (omega arith)) (omega arith)

pub number_of-opcode_of : (n : ℕ) → number_of (opcode_of n) ≡ first_number n
number_of-opcode_of n = by_range (cases_lt n 52)
  where
    by_range : (n < 52) ⊎ (52 ≤ n) → number_of (opcode_of n) ≡ first_number n
    by_range (inl h) = kept-below n (first_or_later 0 n (omega arith)) h
    by_range (inr h) = kept-from n (cases_lt n 90) h
