-- Sums and differences of a counter, which are cut off at 32,767 and at -1.
use Rattle.std.proofs.Common.{◌≡◌, ◌∙◌, arith, ℕ, ◌-◌, ◌≤◌, ℤ, pos, negsuc, ◌+ℤ◌, ◌-ℤ◌, ◌≤ℤ◌, nat_lt, int_le, int_lt, true, false, sym}
use Rattle.std.specs.Prelude.{IsTrue}
use Rattle.std.specs.Int.{int_min, int_max}
use Rattle.std.proofs.lemmas.Int.{ints}
use Rattle.inform_tree.specs.declared.widths.Width.{Width}
use Rattle.inform_tree.specs.declared.values.SumOp.TheVariants.{Add, Sub}
use Rattle.inform_tree.specs.declared.conditions.Relation.TheVariants.{Ge}
use Rattle.inform_meaning.specs.Words.{compares, word_sum, summed}
use Rattle.inform_logic.proofs.Words.{IsWord, small_word, negative_word, word_stays, small_difference}
use Rattle.scott_types.specs.State.{is_counter}
use Rattle.scott_rules.specs.Opcodes.{most_count}

-- a number from -32,768 to 32,767 is a word at both widths
word_of : (z : ℤ) → negsuc 32767 ≤ℤ z → z ≤ℤ pos 32767 → IsWord z
word_of (pos n) low few = small_word (omega (arith, ints, few))
word_of (negsuc n) low few = negative_word (omega (arith, ints, low))

-- a counter is one from -1 on
record Within (z : ℤ) : Type 0 where
  low : negsuc 0 ≤ℤ z
  few : z ≤ℤ pos 32767

within : (z : ℤ) → IsTrue (is_counter z) → Within z
within z h = record { low = grind (arith, ints, h); few = grind (arith, ints, h) }

pub at_least_zero : (z : ℤ) → compares Ge z (pos 0) ≡ int_le (pos 0) z
at_least_zero z = grind (arith, ints)

from_zero : (z : ℤ) → int_le (pos 0) z ≡ true → pos 0 ≤ℤ z
from_zero z h = grind (arith, ints)

pub counts_down : (width : Width) (z : ℤ) → IsTrue (is_counter z) → int_le (pos 0) z ≡ true
    → word_sum width z (negsuc 0) ≡ z -ℤ pos 1
counts_down width z counter some = let
    w : Within z = within z counter in
    let is : z +ℤ negsuc 0 ≡ z -ℤ pos 1 = omega (arith, ints) in
    word_stays width (word_of (z +ℤ negsuc 0) (omega (arith, ints, from_zero z some))
    (omega (arith, ints, w.few))) ∙ is

-- ---- set

pub cut_off : (a : ℕ) → nat_lt 32767 a ≡ true → int_min (pos a) most_count ≡ pos 32767
cut_off a more = grind (arith, ints)

pub whole : (a : ℕ) → nat_lt 32767 a ≡ false → int_min (pos a) most_count ≡ pos a
whole a few = grind (arith, ints)

-- ---- added

not_more : (a : ℕ) → nat_lt 32767 a ≡ false → a ≤ 32767
not_more a h = grind (arith, h)

pub room_left : (width : Width) (a : ℕ) → nat_lt 32767 a ≡ false
    → summed width Sub (pos 32767) (pos a) ≡ pos (32767 - a)
room_left width a few = small_difference width 32767 a (not_more a few) (omega arith)

above : (z : ℤ) (n : ℕ) → int_lt (pos n) z ≡ true → (pos n +ℤ pos 1) ≤ℤ z
above z n h = grind (arith, ints)

not_above : (z : ℤ) (n : ℕ) → int_lt (pos n) z ≡ false → z ≤ℤ pos n
not_above z n h = grind (arith, ints)

min_least : (z : ℤ) → pos 32767 ≤ℤ z → int_min z most_count ≡ pos 32767
min_least z h = grind (arith, ints)

min_whole : (z : ℤ) → z ≤ℤ pos 32767 → int_min z most_count ≡ z
min_whole z h = grind (arith, ints)

pub cut_sum : (z : ℤ) (a : ℕ) → nat_lt 32767 a ≡ false → int_lt (pos (32767 - a)) z ≡ true
    → int_min (z +ℤ pos a) most_count ≡ pos 32767
cut_sum z a few more = min_least (z +ℤ pos a)
    (omega (arith, ints, not_more a few, above z (32767 - a) more))

pub whole_sum : (width : Width) (z : ℤ) (a : ℕ) → IsTrue (is_counter z) → nat_lt 32767 a ≡ false
    → int_lt (pos (32767 - a)) z ≡ false
    → summed width Add z (pos a) ≡ int_min (z +ℤ pos a) most_count
whole_sum width z a counter few more = let
    w : Within z = within z counter in
    let most : (z +ℤ pos a) ≤ℤ pos 32767 =
    omega (arith, ints, not_more a few, not_above z (32767 - a) more) in
    word_stays width (word_of (z +ℤ pos a) (omega (arith, ints, w.low)) most)
    ∙ sym (min_whole (z +ℤ pos a) most)

pub too_much : (z : ℤ) (a : ℕ) → IsTrue (is_counter z) → nat_lt 32767 a ≡ true
    → int_min (z +ℤ pos a) most_count ≡ pos 32767
too_much z a counter more = let
    w : Within z = within z counter in
    let large : 32768 ≤ a = grind (arith, more) in
    min_least (z +ℤ pos a) (omega (arith, ints, w.low, large))

-- ---- subtracted

max_least : (z : ℤ) → z ≤ℤ negsuc 0 → int_max z (negsuc 0) ≡ negsuc 0
max_least z h = grind (arith, ints)

max_whole : (z : ℤ) → negsuc 0 ≤ℤ z → int_max z (negsuc 0) ≡ z
max_whole z h = grind (arith, ints)

less_than : (z : ℤ) (a : ℕ) → int_lt z (pos a) ≡ true → (z +ℤ pos 1) ≤ℤ pos a
less_than z a h = grind (arith, ints)

not_less_than : (z : ℤ) (a : ℕ) → int_lt z (pos a) ≡ false → pos a ≤ℤ z
not_less_than z a h = grind (arith, ints)

pub cut_less : (z : ℤ) (a : ℕ) → int_lt z (pos a) ≡ true
    → int_max (z -ℤ pos a) (negsuc 0) ≡ negsuc 0
cut_less z a more = max_least (z -ℤ pos a) (omega (arith, ints, less_than z a more))

pub whole_less : (width : Width) (z : ℤ) (a : ℕ) → IsTrue (is_counter z)
    → int_lt z (pos a) ≡ false → summed width Sub z (pos a) ≡ int_max (z -ℤ pos a) (negsuc 0)
whole_less width z a counter more = let
    w : Within z = within z counter in
    let least : pos 0 ≤ℤ (z -ℤ pos a) = omega (arith, ints, not_less_than z a more) in
    word_stays width (word_of (z -ℤ pos a) (omega (arith, ints, least))
    (omega (arith, ints, w.few)))
    ∙ sym (max_whole (z -ℤ pos a) (omega (arith, ints, least)))
