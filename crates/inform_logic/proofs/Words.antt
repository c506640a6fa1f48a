-- Words that are themselves at both widths, and how they compare.
use Rattle.std.proofs.Common.{◌≡◌, ◌∙◌, arith, ℕ, suc, ◌+◌, ◌-◌, ◌*◌, ◌/◌, ◌%◌, ◌<◌, ◌≤◌, ℤ, pos, negsuc, ◌+ℤ◌, ◌-ℤ◌, ◌*ℤ◌, neg_ℤ, int_div, int_rem, nat_lt, nat_eq, false, not, if◌then◌else◌, Some, None, FitsSigned, refl, ap, mod-eq_of_lt}
use Rattle.std.specs.Int as i
use Rattle.std.specs.Ordering.{int_eq}
use Rattle.std.proofs.lemmas.Int.{ints, int_wrap_fits}
use Rattle.inform_tree.specs.declared.widths.Width.{Width}
use Rattle.inform_tree.specs.declared.widths.Width.TheVariants.{W16, W32}
use Rattle.inform_tree.specs.declared.values.SumOp.TheVariants.{Add, Sub}
use Rattle.inform_tree.specs.declared.values.ProdOp.TheVariants.{Mul, Div, Rem}
use Rattle.inform_tree.specs.declared.conditions.Relation.TheVariants.{Eq, Ne, Gt, Le, Ge}
use Rattle.inform_meaning.specs.Words.{wrapped, number_word, word_sum, word_negation, summed, multiplied, compares, low_byte, draw_within}

-- a word at both widths: -32768..32767
abbrev pub IsWord : ℤ → Type 0
IsWord = FitsSigned i.w16

-- a number below 32,768, and the negative ones down to -32,768
pub small_word : {n : ℕ} → n < 32768 → IsWord (pos n)
small_word small = record { sfits = small }

pub negative_word : {n : ℕ} → n < 32768 → IsWord (negsuc n)
negative_word small = record { sfits = small }

-- a positive number isn't 0
pub not_zero : (b : ℕ) → 0 < b → int_eq (pos b) (pos 0) ≡ false
not_zero b h = grind (arith, ints)

module _ (width : Width) where
  -- a word is kept as it is
  pub word_stays : {z : ℤ} → IsWord z → wrapped width z ≡ z
  word_stays {z} = by width where
    by : (width : Width) → IsWord z → wrapped width z ≡ z
    by W16 h = int_wrap_fits i.w16 z h
    by W32 h = int_wrap_fits i.w32 z (record { sfits = omega (arith, h.sfits) })

  -- a number of the program below 32,768 is itself
  pub small_number : {n : ℕ} → n < 32768 → number_word width n ≡ pos n
  small_number small = grind arith

  -- a sum, a difference, a negation and a product that are words are themselves
  pub sum_is : (a b : ℤ) → IsWord (a +ℤ b) → summed width Add a b ≡ a +ℤ b
  sum_is a b h = word_stays h

  pub negation_is : (a : ℤ) → IsWord (neg_ℤ a) → word_negation width a ≡ neg_ℤ a
  negation_is a h = word_stays h

  pub product_is : (a b : ℤ) → IsWord (a *ℤ b) → multiplied width Mul a b ≡ Some (a *ℤ b)
  product_is a b h = ap Some (word_stays h)

  -- a quotient that is a word, and a remainder, where the divisor isn't 0
  pub quotient_is : (a b : ℤ) → int_eq b (pos 0) ≡ false → IsWord (int_div a b)
      → multiplied width Div a b ≡ Some (int_div a b)
  quotient_is a b h word = ap (λ t. if t then None else Some (wrapped width (int_div a b))) h
      ∙ ap Some (word_stays word)

  pub remainder_is : (a b : ℤ) → int_eq b (pos 0) ≡ false
      → multiplied width Rem a b ≡ Some (int_rem a b)
  remainder_is a b h = ap (λ t. if t then None else Some (int_rem a b)) h

  -- ---- of numbers that aren't negative

  -- a sum, a difference and a product below 32,768
  pub small_sum : (a b : ℕ) → a + b < 32768 → summed width Add (pos a) (pos b) ≡ pos (a + b)
  small_sum a b small = word_stays (small_word small)

  pub small_difference : (a b : ℕ) → b ≤ a → a < 32768
      → summed width Sub (pos a) (pos b) ≡ pos (a - b)
  small_difference a b less small =
      let is : pos a -ℤ pos b ≡ pos (a - b) = omega (arith, ints, less) in
      ap (wrapped width) is ∙ word_stays (small_word (omega (arith, small)))

  pub small_product : (a b : ℕ) → a * b < 32768
      → multiplied width Mul (pos a) (pos b) ≡ Some (pos (a * b))
  small_product a b small = ap Some (word_stays (small_word small))

  -- a quotient and a remainder by a positive number
  pub small_quotient : (a b : ℕ) → a < 32768 → 0 < b
      → multiplied width Div (pos a) (pos b) ≡ Some (pos (a / b))
  small_quotient a b small h =
      quotient_is (pos a) (pos b) (not_zero b h) (small_word (omega (arith, small)))

  pub small_remainder : (a b : ℕ) → 0 < b
      → multiplied width Rem (pos a) (pos b) ≡ Some (pos (a % b))
  small_remainder a b h = remainder_is (pos a) (pos b) (not_zero b h)

  -- one more, and one less
  pub counted_up : (a : ℕ) → a + 1 < 32768 → word_sum width (pos a) (pos 1) ≡ pos (a + 1)
  counted_up a small = small_sum a 1 small

  pub counted_down : (a : ℕ) → a < 32768 → word_sum width (pos (suc a)) (negsuc 0) ≡ pos a
  counted_down a small =
      let is : pos (suc a) +ℤ negsuc 0 ≡ pos a = omega (arith, ints) in
      ap (wrapped width) is ∙ word_stays (small_word small)

-- ---- bytes and draws

-- a byte is its own low 8 bits
pub small_byte : (a : ℕ) → a < 256 → low_byte (pos a) ≡ a
small_byte a small = mod-eq_of_lt small

-- a draw that is no greater than the limit is itself
pub small_draw : (limit draw : ℕ) → 1 ≤ draw → draw ≤ limit
    → draw_within (pos limit) draw ≡ pos draw
small_draw limit draw some few =
    let within : draw - 1 < limit = omega (arith, some, few) in
    ap (λ n. pos (n + 1)) (mod-eq_of_lt within) ∙ ap pos (omega (arith, some))

-- ---- comparing numbers that aren't negative: as they compare without words

pub equal_is : (a b : ℕ) → int_eq (pos a) (pos b) ≡ nat_eq a b
equal_is a b = grind (arith, ints)

pub eq_is : (a b : ℕ) → compares Eq (pos a) (pos b) ≡ nat_eq a b
eq_is = equal_is

pub ne_is : (a b : ℕ) → compares Ne (pos a) (pos b) ≡ not (nat_eq a b)
ne_is a b = ap not (equal_is a b)

pub gt_is : (a b : ℕ) → compares Gt (pos a) (pos b) ≡ nat_lt b a
gt_is a b = refl

pub le_is : (a b : ℕ) → compares Le (pos a) (pos b) ≡ not (nat_lt b a)
le_is a b = refl

pub ge_is : (a b : ℕ) → compares Ge (pos a) (pos b) ≡ not (nat_lt a b)
ge_is a b = refl
