-- Numbers that are words of a width, as they are written in a program.
use Rattle.std.proofs.Common.{◌≡◌, ◌∙◌, arith, ℕ, ◌+◌, ◌-◌, ◌*◌, ◌%◌, ◌<◌, ◌≤◌, ℤ, pos, negsuc, ◌-ℤ◌, nat_lt, Bool, true, false, if◌then◌else◌, List, [], ◌∷◌, map, length, Some, unwrap_or, refl, ap, ap₂, mod-eq_of_lt}
use Rattle.std.specs.List.{AllByRecursion}
use Rattle.std.proofs.lemmas.Int.{ints}
use Rattle.inform_tree.specs.declared.widths.Width.{Width}
use Rattle.inform_tree.specs.declared.widths.Width.TheVariants.{W16, W32}
use Rattle.inform_tree.specs.declared.values.Const.{Const}
use Rattle.inform_tree.specs.declared.values.Const.TheVariants.{Number}
use Rattle.inform_names.specs.Words.{word, signed}
use Rattle.inform_names.specs.Meanings.{Known, constant_word}
use Rattle.inform_meaning.specs.Words.{low_byte}
use Rattle.inform_meaning.specs.Worlds.{kept}
use Rattle.inform_meaning.specs.Programs.{entries_in}
use Rattle.trans_specs.specs.Wide.{is_word_of}
use Rattle.trans_specs.specs.Directives.{written}
use Rattle.trans_specs.specs.Views.{naturals}
use Rattle.trans_specs.specs.Laws.{NumbersAreTheirWords}
use Rattle.trans_specs.proofs.Bounds.{Below}

-- ---- one number

signed_small : (count n : ℕ) → n * 2 < count → signed count (n % count) ≡ pos n
signed_small count n h = ap (signed count) (mod-eq_of_lt (omega (arith, h)))
    ∙ ap (λ (b : Bool). if b then pos n else pos n -ℤ pos count) lower where
      lower : nat_lt (n * 2) count ≡ true
      lower = grind (arith, h)

-- a negative number down to half the count, written as a word, is itself as a signed number
signed_negative : (count n : ℕ) → (n + 1) * 2 ≤ count
    → signed count ((count - (n + 1) % count) % count) ≡ negsuc n
signed_negative count n h = ap (λ (k : ℕ). signed count ((count - k) % count)) own
    ∙ ap (signed count) rest
    ∙ ap (λ (b : Bool). if b then pos (count - (n + 1)) else pos (count - (n + 1)) -ℤ pos count)
    upper ∙ below where
      own : (n + 1) % count ≡ n + 1
      own = mod-eq_of_lt (omega (arith, h))

      rest : (count - (n + 1)) % count ≡ count - (n + 1)
      rest = mod-eq_of_lt (omega (arith, h))

      upper : nat_lt ((count - (n + 1)) * 2) count ≡ false
      upper = grind (arith, h)

      below : pos (count - (n + 1)) -ℤ pos count ≡ negsuc n
      below = omega (arith, ints, h)

-- what a word of a width is
small_16 : (n : ℕ) → is_word_of W16 (pos n) ≡ true → n < 32768
small_16 n h = grind (arith, ints)

small_32 : (n : ℕ) → is_word_of W32 (pos n) ≡ true → n < 2147483648
small_32 n h = grind (arith, ints)

low_16 : (n : ℕ) → is_word_of W16 (negsuc n) ≡ true → n < 32768
low_16 n h = grind (arith, ints)

low_32 : (n : ℕ) → is_word_of W32 (negsuc n) ≡ true → n < 2147483648
low_32 n h = grind (arith, ints)

module _ (known : Known) where
  pub word_written : (width : Width) (z : ℤ) → is_word_of width z ≡ true
      → constant_word width known (written z) ≡ Some z
  word_written W16 (pos n) h = ap Some (signed_small 65536 n (omega (arith, small_16 n h)))
  word_written W32 (pos n) h = ap Some (signed_small 4294967296 n (omega (arith, small_32 n h)))
  word_written W16 (negsuc n) h = ap Some (signed_negative 65536 n (omega (arith, low_16 n h)))
  word_written W32 (negsuc n) h =
      ap Some (signed_negative 4294967296 n (omega (arith, low_32 n h)))

  pub small_written : (width : Width) (n : ℕ) → n < 32768
      → constant_word width known (Number n) ≡ Some (pos n)
  small_written W16 n h = ap Some (signed_small 65536 n (omega (arith, h)))
  small_written W32 n h = ap Some (signed_small 4294967296 n (omega (arith, h)))

-- a number that is a word of the width stands for itself in a program
pub numbers_are_their_words : NumbersAreTheirWords
numbers_are_their_words width n h = from width (nat_lt n 32768) h where
  from : (width : Width) (b : Bool) → is_word_of width (pos n) ≡ true
      → (if b then pos n else word width n) ≡ pos n
  from width true h = refl
  from W16 false h = signed_small 65536 n (omega (arith, small_16 n h))
  from W32 false h = signed_small 4294967296 n (omega (arith, small_32 n h))

-- ---- lists

module _ (known : Known) (width : Width) where
  abbrev value : Const → ℤ
  value x = unwrap_or (constant_word width known x) (pos 0)

  pub naturals_written : (xs : List ℕ) → Below 32768 xs
      → map (λ x. kept true (value x)) (map Number xs) ≡ naturals xs
  naturals_written [] h = refl
  naturals_written (x ∷ xs) h =
      ap₂ ◌∷◌ (ap (λ o. unwrap_or o (pos 0)) (small_written known width x h.0))
      (naturals_written xs h.1)

  pub bytes_written : (xs : List ℕ) → Below 256 xs
      → map (λ x. kept false (value x)) (map Number xs) ≡ naturals xs
  bytes_written [] h = refl
  bytes_written (x ∷ xs) h =
      ap₂ ◌∷◌ (ap (λ o. pos (low_byte (unwrap_or o (pos 0))))
      (small_written known width x (omega (arith, h.0))) ∙ ap pos (mod-eq_of_lt h.0))
      (bytes_written xs h.1)

  pub integers_written : (zs : List ℤ) → AllByRecursion (λ z. is_word_of width z ≡ true) zs
      → map (λ x. kept true (value x)) (map written zs) ≡ zs
  integers_written [] h = refl
  integers_written (z ∷ zs) h =
      ap₂ ◌∷◌ (ap (λ o. unwrap_or o (pos 0)) (word_written known width z h.0))
      (integers_written zs h.1)

  -- an array of two entries or more holds them
  pub entries_are : {X : Type 0} (words : Bool) (f : X → Const) (xs : List X) → 2 ≤ length xs
      → entries_in width known words (map f xs) ≡ map (λ x. kept words (value x)) (map f xs)
  entries_are words f [] h = refl
  entries_are words f (x ∷ []) h = absurd (omega (arith, h))
  entries_are words f (x ∷ y ∷ xs) h = refl
