-- What entries and numbers a test compares.
use Rattle.std.proofs.Common.{◌≡◌, ◌∙◌, arith, ℕ, zero, suc, ◌<◌, ◌≤◌, ℤ, pos, negsuc, ◌≤ℤ◌, nat_lt, int_le, Bool, true, false, not, List, [], ◌∷◌, map, length, slice_get, Some, refl, ap}
use Rattle.std.specs.Prelude.{slice_index, slice_index_or}
use Rattle.std.proofs.lemmas.Int.{ints}
use Rattle.std.proofs.lemmas.List.{map-append, length-map}
use Rattle.inform_tree.specs.declared.conditions.Relation.TheVariants.{Le}
use Rattle.inform_meaning.specs.Words.{compares}
use Rattle.scott_types.specs.Database.{Database, place_of_item}
use Rattle.scott_types.specs.Limits.{KeepsLimits}
use Rattle.trans_specs.specs.Tables.{bit, start_places}
use Rattle.trans_specs.specs.Views.{naturals}
use Rattle.trans_specs.proofs.Entries.{place_at}
use Rattle.trans_specs.proofs.Lengths.{few}

-- what a test of numbers means
pub is_less : (a n : ℕ) → nat_lt a n ≡ true → a < n
is_less a n h = grind (arith, h)

pub less_is : (a n : ℕ) → a < n → nat_lt a n ≡ true
less_is a n h = grind (arith, h)

pub is_more : (a n : ℕ) → nat_lt a n ≡ false → n ≤ a
is_more a n h = grind (arith, h)

pub not_more : (a n : ℕ) → not (nat_lt a n) ≡ true → n ≤ a
not_more a n h = grind (arith, h)

pub not_less : (a n : ℕ) → not (nat_lt a n) ≡ false → a < n
not_less a n h = grind (arith, h)

pub not_under : (a n : ℕ) → n ≤ a → nat_lt a n ≡ false
not_under a n h = grind (arith, h)

-- a flag that is there, and one that isn't
pub flag_at : (flags : List Bool) (n : ℕ) → n < length flags
    → slice_get (naturals (map bit flags)) n ≡ Some (pos (bit (slice_index_or flags n false)))
flag_at [] n less = absurd (omega (arith, less))
flag_at (x ∷ xs) zero less = refl
flag_at (x ∷ xs) (suc n) less = flag_at xs n (omega (arith, less))

pub flag_beyond : (flags : List Bool) (n : ℕ) → length flags ≤ n
    → slice_index_or flags n false ≡ false
flag_beyond [] zero more = refl
flag_beyond [] (suc n) more = refl
flag_beyond (x ∷ xs) zero more = absurd (omega (arith, more))
flag_beyond (x ∷ xs) (suc n) more = flag_beyond xs n (omega (arith, more))

-- an entry of numbers, and one after the last
pub number_at : (zs : List ℤ) (n : ℕ) → n < length zs
    → slice_get zs n ≡ Some (slice_index_or zs n (pos 0))
number_at [] n less = absurd (omega (arith, less))
number_at (z ∷ zs) zero less = refl
number_at (z ∷ zs) (suc n) less = number_at zs n (omega (arith, less))

pub natural_at : (xs : List ℕ) (n : ℕ) → n < length xs
    → slice_get (naturals xs) n ≡ Some (pos (slice_index xs n))
natural_at [] n less = absurd (omega (arith, less))
natural_at (x ∷ xs) zero less = refl
natural_at (x ∷ xs) (suc n) less = natural_at xs n (omega (arith, less))

pub place_beyond : (places : List ℕ) (n : ℕ) → length places ≤ n → slice_index places n ≡ 0
place_beyond [] zero more = refl
place_beyond [] (suc n) more = refl
place_beyond (x ∷ xs) zero more = absurd (omega (arith, more))
place_beyond (x ∷ xs) (suc n) more = place_beyond xs n (omega (arith, more))

-- the place where an item began
pub start_at : (db : Database) (n : ℕ) → n < length db.items
    → slice_get (naturals (start_places db)) n
    ≡ Some (pos (slice_index (map place_of_item db.items) n))
start_at db n less =
    let there : n < length (map place_of_item db.items) =
    omega (arith, less, length-map db.items place_of_item) in
    ap (λ zs. slice_get zs n) (map-append pos (map place_of_item db.items) (0 ∷ []))
    ∙ place_at (map place_of_item db.items) (pos 0) n there

pub start_beyond : (db : Database) (n : ℕ) → length db.items ≤ n
    → slice_index (map place_of_item db.items) n ≡ 0
start_beyond db n more = place_beyond (map place_of_item db.items) n
    (omega (arith, more, length-map db.items place_of_item))

pub at_most_is : (z : ℤ) (a : ℕ) → compares Le z (pos a) ≡ int_le z (pos a)
at_most_is z a = grind (arith, ints)

pub few_items : (db : Database) → KeepsLimits db → length db.items < 32768
few_items db limits = omega (arith, few 255 db.items limits.sizes.items)

-- ---- the light

pub least_light : {z most : ℤ} → negsuc 0 ≤ℤ z → z ≤ℤ most → negsuc 0 ≤ℤ most
least_light {z} {most} low few = grind (arith, ints)

pub same_most : (z : ℤ) → z ≤ℤ z
same_most z = omega (arith, ints)

pub no_light : (n : ℕ) → negsuc 0 ≤ℤ negsuc (suc n) → ⊥
no_light n h = omega (arith, ints, h)
