-- The light of the header is a word where no number is too wide.
use Rattle.std.proofs.Common.{◌≡◌, Bool, true, false, not, cond, List, ◌∷◌, find, Some, None, refl}
use Rattle.inform_tree.specs.declared.widths.Width.{Width}
use Rattle.scott_types.specs.Database.{Database}
use Rattle.trans_specs.specs.declared.places.Place.TheVariants.{Carry, Treasures, Light, Home}
use Rattle.trans_specs.specs.Wide.{Placed, is_word_of, placed_actions, is_too_wide, wide_at}

word_or_wide : (b : Bool) → not b ≡ false → b ≡ true
word_or_wide true h = refl
word_or_wide false h = cc

none_first : (test : Placed → Bool) (x : Placed) (xs : List Placed)
    → find test (x ∷ xs) ≡ None → (test x ≡ false) × (find test xs ≡ None)
none_first test x xs = from (test x) where
  from : (b : Bool) → cond b (Some x) (find test xs) ≡ None
      → (b ≡ false) × (find test xs ≡ None)
  from true h = cc
  from false h = (refl, h)

none_third : (test : Placed → Bool) (x y z : Placed) (xs : List Placed)
    → find test (x ∷ y ∷ z ∷ xs) ≡ None → test z ≡ false
none_third test x y z xs h = (none_first test z xs
    (none_first test y (z ∷ xs) (none_first test x (y ∷ z ∷ xs) h).1).1).0

pub light_word : (width : Width) (db : Database) → wide_at width db ≡ None
    → is_word_of width db.header.light ≡ true
light_word width db none = word_or_wide (is_word_of width db.header.light)
    (none_third (is_too_wide width) (Carry, db.header.carry) (Treasures, db.header.treasures)
    (Light, db.header.light) ((Home, db.header.home) ∷ placed_actions 0 db.actions) none)
