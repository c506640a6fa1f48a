-- The limits of a database, as they are used: how long its lists are, and what holds of each entry.
use Rattle.std.proofs.Common.{◌≡◌, ℕ, ◌≤◌, ◌&&◌, Bool, true, leb, List, [], ◌∷◌, length, zip, ℤ, pos, negsuc, ◌≤ℤ◌, arith}
use Rattle.std.specs.Prelude.{int_le}
use Rattle.std.specs.List.{list_all, AllByRecursion}
use Rattle.std.proofs.lemmas.Bool.{and_parts, and_from, leb-true}
use Rattle.std.proofs.lemmas.Int.{ints}
use Rattle.std.proofs.lemmas.Slice.Zip.{length-zip}
use Rattle.scott_types.specs.declared.parts.Header.{Header}
use Rattle.scott_types.specs.declared.parts.Action.{Action}
use Rattle.scott_types.specs.Database.{Database}
use Rattle.scott_types.specs.Limits.{is_file_text, is_number, is_action, is_word, is_room, is_item, are_header_numbers, is_list_of, KeepsLimits}
use Rattle.adv_decompiler.proofs.Apart.{all-by}
use Rattle.adv_decompiler.proofs.WrittenLimits.{IsGood, good}

abbrev pub Passes : {X : Type 0} → (X → Bool) → X → Type 0
Passes ok x = ok x ≡ true

-- an action within the limits, and a comment
abbrev pub IsLine : Action × List ℕ → Type 0
IsLine pair = IsGood pair.0 × (is_file_text pair.1 ≡ true)

-- one at least, and at most so many
abbrev Within : {X : Type 0} → ℕ → List X → Type 0
Within most xs = (1 ≤ length xs) × (length xs ≤ most)

pub record Limited (db : Database) : Type 0 where
  pub words_few : Within 1000 db.words
  pub rooms_few : Within 255 db.rooms
  pub messages_few : Within 1000 db.messages
  pub items_few : Within 255 db.items
  pub lines_few : Within 5000 (zip db.actions db.comments)
  pub words_right : AllByRecursion (Passes is_word) db.words
  pub rooms_right : AllByRecursion (Passes is_room) db.rooms
  pub messages_right : AllByRecursion (Passes is_file_text) db.messages
  pub items_right : AllByRecursion (Passes is_item) db.items
  pub lines_right : AllByRecursion IsLine (zip db.actions db.comments)
  pub light : (int_le (negsuc 0) db.header.light && int_le db.header.light (pos 2147483647)) ≡ true

lines-right : (actions : List Action) (comments : List (List ℕ)) → list_all is_action actions ≡ true → list_all is_file_text comments ≡ true
    → AllByRecursion IsLine (zip actions comments)
lines-right [] comments h k = tt
lines-right (a ∷ actions) [] h k = tt
lines-right (a ∷ actions) (text ∷ comments) h k =
    let one = and_parts (is_action a) (list_all is_action actions) h in
    let two = and_parts (is_file_text text) (list_all is_file_text comments) k in
    ((good a one.0, two.0), lines-right actions comments one.1 two.1)

within : {X : Type 0} (most : ℕ) (xs : List X) → is_list_of most xs ≡ true → Within most xs
within most xs h =
    let parts = and_parts (leb 1 (length xs)) (leb (length xs) most) h in (leb-true 1 (length xs) parts.0, leb-true (length xs) most parts.1)

int_le-from : (a b : ℤ) → a ≤ℤ b → int_le a b ≡ true
int_le-from a b h = grind (arith, ints)

light-most : (h : Header) → are_header_numbers h ≡ true → int_le h.light (pos 2147483647) ≡ true
light-most h ok =
    let unused = and_parts (is_number h.unused) _ ok in
    let carry = and_parts (is_number h.carry) _ unused.1 in
    let treasures = and_parts (is_number h.treasures) _ carry.1 in
    let light = and_parts (is_number h.light) _ treasures.1 in (and_parts (int_le (negsuc 2147483647) h.light) (int_le h.light (pos 2147483647)) light.0).1

-- a database that keeps the limits has lists that are neither empty nor too long, of right entries
pub limited : (db : Database) → KeepsLimits db → Limited db
limited db limits =
    let texts = and_parts (list_all is_file_text db.messages) (list_all is_file_text db.comments) limits.entries.texts in
    let actions = within 5000 db.actions limits.sizes.actions in
    let some : 1 ≤ length (zip db.actions db.comments) = omega (arith, length-zip db.actions db.comments, limits.commented, actions.0) in
    let few : length (zip db.actions db.comments) ≤ 5000 = omega (arith, length-zip db.actions db.comments, actions.1) in
    let least : int_le (negsuc 0) db.header.light ≡ true = int_le-from (negsuc 0) db.header.light limits.header.light_range in
    record {
      words_few = within 1000 db.words limits.sizes.words;
      rooms_few = within 255 db.rooms limits.sizes.rooms;
      messages_few = within 1000 db.messages limits.sizes.messages;
      items_few = within 255 db.items limits.sizes.items;
      lines_few = (some, few);
      words_right = all-by is_word db.words limits.entries.words;
      rooms_right = all-by is_room db.rooms limits.entries.rooms;
      messages_right = all-by is_file_text db.messages texts.0;
      items_right = all-by is_item db.items limits.entries.items;
      lines_right = lines-right db.actions db.comments limits.entries.actions texts.1;
      light = and_from _ _ least (light-most db.header limits.header.numbers);
    }
