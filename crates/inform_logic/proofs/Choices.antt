-- The rules of the choices of a `switch`: whether a value fits them.
use Rattle.std.proofs.Common.{◌≡◌, ◌∙◌, arith, ℕ, ◌<◌, ℤ, pos, nat_eq, nat_le, ◌&&◌, if◌then◌else◌, Bool, true, false, List, [], ◌∷◌, Some, None, refl, ap}
use Rattle.std.proofs.lemmas.Int.{ints}
use Rattle.inform_tree.specs.declared.values.Const.TheVariants.{Number}
use Rattle.inform_tree.specs.Statements.{Choice}
use Rattle.inform_meaning.specs.Words.{number_word, is_between}
use Rattle.inform_meaning.specs.Worlds.{Program}
use Rattle.inform_meaning.specs.Statements.{fits_choice, fits_any}
use Rattle.inform_logic.specs.Leading.{Fits}
use Rattle.inform_logic.proofs.Words.{small_number}

between_is : (a b n : ℕ) → is_between (pos a) (pos b) (pos n) ≡ nat_le a n && nat_le n b
between_is a b n = grind (arith, ints)

same_is : (a n : ℕ) → is_between (pos a) (pos a) (pos n) ≡ nat_eq n a
same_is a n = grind (arith, ints)

module _ {p : Program} where
  pub no_choices : {a : ℤ} → Fits p a [] false
  no_choices = record { fits = refl }

  -- the first of some choices, and one after it
  pub this_choice : {a : ℤ} {x : Choice} {xs : List Choice} → fits_choice p a x ≡ true
      → Fits p a (x ∷ xs) true
  this_choice {a} {xs = xs} h = record { fits = ap (λ t. if t then true else fits_any p a xs) h }

  pub later_choice : {a : ℤ} {x : Choice} {xs : List Choice} {b : Bool} → fits_choice p a x ≡ false
      → Fits p a xs b → Fits p a (x ∷ xs) b
  later_choice {a} {xs = xs} h rest =
      record { fits = ap (λ t. if t then true else fits_any p a xs) h ∙ rest.fits }

  by_choice : {a : ℤ} {x : Choice} {b : Bool} → fits_choice p a x ≡ b → Fits p a (x ∷ []) b
  by_choice {b = true} h = this_choice h
  by_choice {b = false} h = later_choice h no_choices

  -- one number that is a word of the width, one below 32,768, and one range of such numbers
  pub one_word : {a n : ℕ} {b : Bool} → number_word p.width a ≡ pos a → nat_eq n a ≡ b
      → Fits p (pos n) ((Number a, None) ∷ []) b
  one_word {a} {n} own h =
      by_choice (ap (λ v. is_between v v (pos n)) own ∙ same_is a n ∙ h)

  pub one_number : {a n : ℕ} {b : Bool} → a < 32768 → nat_eq n a ≡ b
      → Fits p (pos n) ((Number a, None) ∷ []) b
  one_number small h = one_word (small_number p.width small) h

  pub one_range : {a b n : ℕ} {t : Bool} → a < 32768 → b < 32768 → nat_le a n && nat_le n b ≡ t
      → Fits p (pos n) ((Number a, Some (Number b)) ∷ []) t
  one_range {a} {b} {n} small few h = by_choice
      (ap (λ v. is_between v (number_word p.width b) (pos n)) (small_number p.width small)
      ∙ ap (λ v. is_between (pos a) v (pos n)) (small_number p.width few) ∙ between_is a b n ∙ h)
