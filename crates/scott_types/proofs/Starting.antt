-- The first state fits its database.
use Rattle.std.proofs.Common.{◌≡◌, ◌∙◌, ℕ, ap, true, false, ℤ, pos, List, [], ◌∷◌, length, map, replicate, refl, arith, nat_le}
use Rattle.std.specs.Prelude.{IsTrue}
use Rattle.std.specs.List.{list_all}
use Rattle.std.proofs.lemmas.Bool.{and_parts, and_from, lt-ltb}
use Rattle.std.proofs.lemmas.Int.{ints}
use Rattle.std.proofs.lemmas.List.{length-map}
use Rattle.std.proofs.lemmas.List.Sums.{list_all-from_AllPass}
use Rattle.std.proofs.lemmas.List.Elements.{All-replicate}
use Rattle.scott_types.specs.declared.parts.Item.{Item}
use Rattle.scott_types.specs.declared.states.State.{State}
use Rattle.scott_types.specs.Database.{Database, place_of_item}
use Rattle.scott_types.specs.Limits.{KeepsLimits, is_item, is_file_text}
use Rattle.scott_types.specs.State.{Fits, start, is_room_of, is_place}

-- ---- the first state

-- the places where the items begin are places
starts : (items : List Item) → IsTrue (list_all is_item items) → IsTrue (list_all is_place (map place_of_item items))
starts [] all = refl
starts (item ∷ items) all =
    let parts = and_parts (is_item item) (list_all is_item items) all in
    and_from _ _ (and_parts (is_file_text item.text) (is_place item.place) parts.0).1 (starts items parts.1)

-- the first state fits
pub Fits-start : (db : Database) → KeepsLimits db → Fits db (start db)
Fits-start db limits =
    let zero_there = (and_parts (nat_le 1 (length db.rooms)) (nat_le (length db.rooms) 255) limits.sizes.rooms).0 in
    record {
      rooms = record {
        room = lt-ltb db.header.start (length db.rooms) limits.header.start_there;
        saved = zero_there;
        rooms = list_all-from_AllPass (is_room_of db) (replicate 16 0) (All-replicate (λ room. is_room_of db room ≡ true) 16 0 zero_there);
        count = refl;
      };
      counters = record { counter = refl; counters = refl; count = refl };
      flags = refl;
      light = (limits.header.light_range, omega (arith, ints));
      places = record { count = length-map db.items place_of_item; places = starts db.items limits.entries.items };
    }

-- and so does a state that is the same
pub Fits-same : (db : Database) (s : State) → s ≡ start db → KeepsLimits db → Fits db s
Fits-same db s e limits = rw e (Fits-start db limits)

-- the first state, but for its light and its places
abbrev pub first : Database → ℤ → List ℕ → State
first db light places = record {
  room = db.header.start;
  saved = 0;
  rooms = replicate 16 0;
  counter = pos 0;
  counters = replicate 16 (pos 0);
  flags = replicate 32 false;
  light = light;
  places = record { items = places };
  redraw = true;
}

-- it is the first state where they are
pub first-start : (db : Database) (light : ℤ) (places : List ℕ) → light ≡ db.header.light → places ≡ map place_of_item db.items → first db light places ≡ start db
first-start db light places same_light same_places =
    ap (λ (light : ℤ). first db light places) same_light ∙ ap (first db db.header.light) same_places
