-- What a state says, and when it fits a database.
use Rattle.std.specs.Prelude.{ℕ, ◌≡◌, ◌==◌, ◌&&◌, ◌||◌, Bool, true, false, not, length, replicate, map, count_by, slice_index, slice_index_or, slice_set, nat_lt, nat_le, ℤ, pos, negsuc, ◌≤ℤ◌, int_le, IsTrue}
use Rattle.std.specs.List.{list_all}
use Rattle.scott_types.specs.declared.states.State.{State}
use Rattle.scott_types.specs.Limits.{KeepsLimits}
use Rattle.scott_types.specs.Database.{Database, place_of_item}
use Rattle.scott_types.specs.declared.places.TheConstants.{CARRIED, LAMP, DARK_FLAG, OUT_FLAG}

-- ---- places

-- where an item that is carried is
abbrev pub carried_place : ℕ
carried_place = CARRIED

-- the item that gives light
abbrev pub lamp : ℕ
lamp = LAMP

abbrev pub has_item : State → ℕ → Bool
has_item s item = nat_lt item (length s.places.items)

-- where an item is; one that isn't there is at place 0
abbrev pub place_of : State → ℕ → ℕ
place_of s item = slice_index s.places.items item

abbrev pub is_here : State → ℕ → Bool
is_here s item = place_of s item == s.room

abbrev pub is_carried : State → ℕ → Bool
is_carried s item = place_of s item == carried_place

abbrev pub is_near : State → ℕ → Bool
is_near s item = is_carried s item || is_here s item

abbrev pub carried_count : State → ℕ
carried_count s = count_by (λ place. place == carried_place) s.places.items

abbrev pub with_place : State → ℕ → ℕ → State
with_place s item place =
    record s { places = record { items = slice_set s.places.items item place } }

-- ---- flags and the dark

abbrev pub dark_flag : ℕ
dark_flag = DARK_FLAG

-- the flag that says that the light is out
abbrev pub out_flag : ℕ
out_flag = OUT_FLAG

-- a flag above 31 is clear
abbrev pub flag_of : State → ℕ → Bool
flag_of s flag = slice_index_or s.flags flag false

abbrev pub with_flag : State → ℕ → Bool → State
with_flag s flag on = record s { flags = slice_set s.flags flag on }

-- the flag of darkness is set, and the lamp is neither here nor carried
abbrev pub is_dark : State → Bool
is_dark s = flag_of s dark_flag && not (is_near s lamp)

-- ---- the first state, and those that fit

abbrev pub start : Database → State
start db = record {
  room = db.header.start;
  saved = 0;
  rooms = replicate 16 0;
  counter = pos 0;
  counters = replicate 16 (pos 0);
  flags = replicate 32 false;
  light = db.header.light;
  places = record { items = map place_of_item db.items };
  redraw = true;
}

abbrev pub is_room_of : Database → ℕ → Bool
is_room_of db room = nat_lt room (length db.rooms)

-- a number that a place can have
abbrev pub is_place : ℕ → Bool
is_place place = nat_le place carried_place

abbrev pub is_counter : ℤ → Bool
is_counter z = int_le (negsuc 0) z && int_le z (pos 32767)

pub record FitsRooms (db : Database) (s : State) : Type 0 where
  pub room : IsTrue (is_room_of db s.room)
  pub saved : IsTrue (is_room_of db s.saved)
  pub rooms : IsTrue (list_all (is_room_of db) s.rooms)
  pub count : length s.rooms ≡ 16

pub record FitsCounters (s : State) : Type 0 where
  pub counter : IsTrue (is_counter s.counter)
  pub counters : IsTrue (list_all is_counter s.counters)
  pub count : length s.counters ≡ 16

pub record FitsPlaces (db : Database) (s : State) : Type 0 where
  pub count : length s.places.items ≡ length db.items
  pub places : IsTrue (list_all is_place s.places.items)

-- The rooms are rooms of the database, the counters lie in -1..32767, the light from -1 to the
-- header's, and each item has a place of a byte. There are 16 backup rooms, 16 backup counters and
-- 32 flags.
pub record Fits (db : Database) (s : State) : Type 0 where
  pub rooms : FitsRooms db s
  pub counters : FitsCounters s
  pub flags : length s.flags ≡ 32
  pub light : (negsuc 0 ≤ℤ s.light) × (s.light ≤ℤ db.header.light)
  pub places : FitsPlaces db s

-- the first state fits
abbrev pub StartFits : Type 0
StartFits = (db : Database) → KeepsLimits db → Fits db (start db)
