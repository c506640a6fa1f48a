-- Numbers of the light, and the item of a place.
use Rattle.std.proofs.Common.{◌≡◌, ◌∙◌, arith, ℕ, zero, suc, ◌<◌, ℤ, pos, negsuc, ◌+ℤ◌, ◌-ℤ◌, ◌≤ℤ◌, nat_eq, not, Bool, true, false, cond, List, [], ◌∷◌, length, find, slice_index, Some, None, refl, sym, ap}
use Rattle.std.specs.Int as i
use Rattle.std.specs.Ordering.{int_eq}
use Rattle.std.proofs.lemmas.Int.{ints, int_wrap_fits}
use Rattle.inform_tree.specs.declared.widths.Width.{Width}
use Rattle.inform_tree.specs.declared.widths.Width.TheVariants.{W16, W32}
use Rattle.inform_meaning.specs.Words.{word_sum}
use Rattle.scott_types.specs.Database.{Database}
use Rattle.trans_specs.specs.declared.places.Place.TheVariants.{Carry, Treasures, Light, Home}
use Rattle.trans_specs.specs.Wide.{Placed, is_word_of, placed_actions, is_too_wide, wide_at}

-- ---- the light of the header is a word

word_or_wide : (b : Bool) → not b ≡ false → b ≡ true
word_or_wide true h = refl
word_or_wide false h = cc

none_first : (test : Placed → Bool) (x : Placed) (xs : List Placed)
    → find test (x ∷ xs) ≡ None → (test x ≡ false) × (find test xs ≡ None)
none_first test x xs = from (test x) where
  from : (b : Bool) → cond b (Some x) (find test xs) ≡ None
      → (b ≡ false) × (find test xs ≡ None)
  from true h = cc
  from false h = (refl, h)

none_third : (test : Placed → Bool) (x y z : Placed) (xs : List Placed)
    → find test (x ∷ y ∷ z ∷ xs) ≡ None → test z ≡ false
none_third test x y z xs h = (none_first test z xs
    (none_first test y (z ∷ xs) (none_first test x (y ∷ z ∷ xs) h).1).1).0

pub light_word : (width : Width) (db : Database) → wide_at width db ≡ None
    → is_word_of width db.header.light ≡ true
light_word width db none = word_or_wide (is_word_of width db.header.light)
    (none_third (is_too_wide width) (Carry, db.header.carry) (Treasures, db.header.treasures)
    (Light, db.header.light) ((Home, db.header.home) ∷ placed_actions 0 db.actions) none)

-- ---- one less

most_16 : (n : ℕ) (most : ℤ) → pos n ≤ℤ most → is_word_of W16 most ≡ true → n < 32768
most_16 n most few word = grind (arith, ints)

most_32 : (n : ℕ) (most : ℤ) → pos n ≤ℤ most → is_word_of W32 most ≡ true → n < 2147483648
most_32 n most few word = grind (arith, ints)

one_less : (n : ℕ) → pos (suc n) +ℤ negsuc 0 ≡ pos n
one_less n = omega (arith, ints)

same_less : (z : ℤ) → z +ℤ negsuc 0 ≡ z -ℤ pos 1
same_less z = omega (arith, ints)

-- to take one from a natural number that is at most a word of a width wraps nothing
wrapped_less : (width : Width) (n : ℕ) (most : ℤ) → pos n ≤ℤ most → is_word_of width most ≡ true
    → word_sum width (pos n) (negsuc 0) ≡ pos n +ℤ negsuc 0
wrapped_less W16 zero most few word =
    int_wrap_fits i.w16 (negsuc 0) (record { sfits = omega arith })
wrapped_less W32 zero most few word =
    int_wrap_fits i.w32 (negsuc 0) (record { sfits = omega arith })
wrapped_less W16 (suc n) most few word =
    let less = most_16 (suc n) most few word in
    ap (i.int_wrap i.w16) (one_less n)
    ∙ int_wrap_fits i.w16 (pos n) (record { sfits = omega (arith, less) }) ∙ sym (one_less n)
wrapped_less W32 (suc n) most few word =
    let less = most_32 (suc n) most few word in
    ap (i.int_wrap i.w32) (one_less n)
    ∙ int_wrap_fits i.w32 (pos n) (record { sfits = omega (arith, less) }) ∙ sym (one_less n)

-- a light that isn't spent and no greater than a word has one less as a word
pub light_less : (width : Width) (z most : ℤ) → negsuc 0 ≤ℤ z → z ≤ℤ most
    → int_eq z (negsuc 0) ≡ false → is_word_of width most ≡ true
    → word_sum width z (negsuc 0) ≡ z -ℤ pos 1
light_less width (pos n) most low few burns word =
    wrapped_less width n most few word ∙ same_less (pos n)
light_less width (negsuc zero) most low few burns word = cc
light_less width (negsuc (suc n)) most low few burns word = absurd (omega (arith, ints, low))

pub range_less : (z most : ℤ) → negsuc 0 ≤ℤ z → z ≤ℤ most → int_eq z (negsuc 0) ≡ false
    → (negsuc 0 ≤ℤ (z -ℤ pos 1)) × ((z -ℤ pos 1) ≤ℤ most)
range_less (pos n) most low few burns = (omega (arith, ints), omega (arith, ints, few))
range_less (negsuc zero) most low few burns = cc
range_less (negsuc (suc n)) most low few burns = absurd (omega (arith, ints, low))

-- ---- an item that is somewhere is there

pub is_item : (xs : List ℕ) (i : ℕ) → nat_eq (slice_index xs i) 0 ≡ false → i < length xs
is_item [] i h = cc
is_item (x ∷ xs) zero h = omega arith
is_item (x ∷ xs) (suc i) h = omega (arith, is_item xs i h)
