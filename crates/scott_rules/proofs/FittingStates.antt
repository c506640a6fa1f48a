-- Changes of a state that keep it fitting its database.
use Rattle.std.proofs.Common.{◌≡◌, ℕ, zero, suc, ◌%◌, Bool, true, false, ◌&&◌, List, [], ◌∷◌, length, get_or, set, nat_lt, nat_le, ℤ, pos, negsuc, ◌≤ℤ◌, ◌∙◌, refl, arith}
use Rattle.std.specs.Prelude.{int_le, IsTrue, ◌-ℤ◌, ◌+ℤ◌, slice_index, slice_index_or, slice_set, if◌then◌else◌}
use Rattle.std.specs.Int.{int_min, int_max}
use Rattle.std.specs.List.{list_all}
use Rattle.std.proofs.lemmas.Bool.{and_parts, cond_both}
use Rattle.std.proofs.lemmas.Bool.Decides.{nat_tests}
use Rattle.std.proofs.lemmas.Int.{ints}
use Rattle.std.proofs.lemmas.List.{length-set}
use Rattle.std.proofs.lemmas.List.Sums.{AllPass-from_list_all, list_all-from_AllPass}
use Rattle.std.proofs.lemmas.List.Elements.{All-set}
use Rattle.scott_types.specs.declared.states.State.{State}
use Rattle.scott_types.specs.declared.opcodes.ItemOp.{ItemOp}
use Rattle.scott_types.specs.declared.opcodes.ItemOp.TheVariants.{Drop, Remove, Put, Swap, Take, Join}
use Rattle.scott_types.specs.declared.opcodes.RoomOp.{RoomOp}
use Rattle.scott_types.specs.declared.opcodes.RoomOp.TheVariants.{Go, SwapSaved, SwapRoom}
use Rattle.scott_types.specs.declared.opcodes.FlagOp.{FlagOp}
use Rattle.scott_types.specs.declared.opcodes.FlagOp.TheVariants.{Darken, Lighten, SetFlag, ClearFlag, SetZero, ClearZero}
use Rattle.scott_types.specs.declared.opcodes.CounterOp.{CounterOp}
use Rattle.scott_types.specs.declared.opcodes.CounterOp.TheVariants.{Down, SetCounter, SwapCounter, Add, Subtract}
use Rattle.scott_types.specs.Database.{Database}
use Rattle.scott_types.specs.Limits.{KeepsLimits}
use Rattle.scott_types.specs.State.{is_place, is_counter, is_room_of, has_item, carried_place, lamp, dark_flag, out_flag, place_of, with_place, with_flag, Fits}
use Rattle.scott_rules.specs.Opcodes.{moved, redrawn, swapped, items_moved, refilled, room_changed, flag_changed, with_counter, counter_changed, last_room, dead}

-- ---- lists whose entries pass a test

-- an entry that passes is put into the list
list_all-set : {X : Type 0} (p : X → Bool) (xs : List X) (i : ℕ) (x : X) → IsTrue (p x) → IsTrue (list_all p xs) → IsTrue (list_all p (set xs i x))
list_all-set p xs i x one all = list_all-from_AllPass p (set xs i x) (All-set (λ y. p y ≡ true) xs i x one (AllPass-from_list_all p xs all))

-- what is read passes, where the default passes too
list_all-get_or : {X : Type 0} (p : X → Bool) (xs : List X) (i : ℕ) (d : X) → IsTrue (p d) → IsTrue (list_all p xs) → IsTrue (p (get_or xs i d))
list_all-get_or p [] i d one all = one
list_all-get_or p (x ∷ xs) zero d one all = (and_parts _ _ all).0
list_all-get_or p (x ∷ xs) (suc i) d one all = list_all-get_or p xs i d one (and_parts _ _ all).1

-- ---- counters

-- a counter from 0 on is one less
is_counter-less_one : (z : ℤ) → IsTrue (is_counter z) → IsTrue (int_le (pos 0) z) → IsTrue (is_counter (z -ℤ pos 1))
is_counter-less_one z fits positive = grind (arith, ints)

-- a number is set, up to 32767
is_counter-set : (n : ℕ) → IsTrue (is_counter (int_min (pos n) (pos 32767)))
is_counter-set n = grind (arith, ints)

-- a number is added, up to 32767
is_counter-more : (z : ℤ) (n : ℕ) → IsTrue (is_counter z) → IsTrue (is_counter (int_min (z +ℤ pos n) (pos 32767)))
is_counter-more z n fits = grind (arith, ints)

-- a number is taken off, down to -1
is_counter-less : (z : ℤ) (n : ℕ) → IsTrue (is_counter z) → IsTrue (is_counter (int_max (z -ℤ pos n) (negsuc 0)))
is_counter-less z n fits = grind (arith, ints)

-- ---- numbers of a database

-- a database has a room, and at most 255
rooms_range : (db : Database) → KeepsLimits db → (nat_le 1 (length db.rooms) ≡ true) × (nat_le (length db.rooms) 255 ≡ true)
rooms_range db limits = and_parts (nat_le 1 (length db.rooms)) (nat_le (length db.rooms) 255) limits.sizes.rooms

module _ (db : Database) (limits : KeepsLimits db) where
  -- a room's number is a place
  pub place_from_room : (room : ℕ) → IsTrue (is_room_of db room) → IsTrue (is_place room)
  place_from_room room is_room = let range = rooms_range db limits in grind (arith, nat_tests)

  -- room 0 is there
  pub is_room-zero : IsTrue (is_room_of db 0)
  is_room-zero = (rooms_range db limits).0

  -- and so is the highest room
  is_room-last : IsTrue (is_room_of db (last_room db))
  is_room-last = let range = rooms_range db limits in grind (arith, nat_tests)

  -- ---- one part is changed

  -- where an item is, is a place
  is_place-place_of : (s : State) (item : ℕ) → Fits db s → IsTrue (is_place (place_of s item))
  is_place-place_of s item fits = list_all-get_or is_place s.places.items item 0 refl fits.places.places

  -- an item is put at a place
  pub Fits-with_place : (s : State) (item place : ℕ) → IsTrue (is_place place) → Fits db s → Fits db (with_place s item place)
  Fits-with_place s item place there fits =
      let count = length-set s.places.items item place ∙ fits.places.count in
      let places = list_all-set is_place s.places.items item place there fits.places.places in
      assumption (count, places)

  -- a flag is set or cleared
  pub Fits-with_flag : (s : State) (flag : ℕ) (on : Bool) → Fits db s → Fits db (with_flag s flag on)
  Fits-with_flag s flag on fits = let count = length-set s.flags flag on ∙ fits.flags in assumption count

  -- the room is or isn't to be described
  pub Fits-redraw : (s : State) (redraw : Bool) → Fits db s → Fits db (record s { redraw = redraw })
  Fits-redraw s redraw fits = assumption

  -- the player goes to a room
  pub Fits-room : (s : State) (room : ℕ) → IsTrue (is_room_of db room) → Fits db s → Fits db (record s { room = room })
  Fits-room s room is_room fits = assumption

  -- the counter is another
  Fits-with_counter : (s : State) (counter : ℤ) → IsTrue (is_counter counter) → Fits db s → Fits db (with_counter s counter)
  Fits-with_counter s counter is_count fits = assumption

  -- the light lasts longer or shorter
  pub Fits-light : (s : State) (light : ℤ) → (negsuc 0 ≤ℤ light) × (light ≤ℤ db.header.light) → Fits db s → Fits db (record s { light = light })
  Fits-light s light range fits = assumption

  -- ---- items

  -- an item that is there goes to a place
  pub Fits-moved : (s : State) (item place : ℕ) → IsTrue (is_place place) → Fits db s → Fits db (moved s item place)
  Fits-moved s item place there fits =
      cond_both (has_item s item) _ _ (Fits db) (λ _. Fits-redraw _ _ (Fits-with_place s item place there fits)) (λ _. fits)

  -- two items change places
  Fits-swapped : (s : State) (p q : ℕ) → Fits db s → Fits db (swapped s p q)
  Fits-swapped s p q fits =
      let first = Fits-moved s p (place_of s q) (is_place-place_of s q fits) fits in
      let second = Fits-moved (moved s p (place_of s q)) q (place_of s p) (is_place-place_of s p fits) first in
      cond_both (has_item s p && has_item s q) _ _ (Fits db) (λ _. second) (λ _. fits)

  -- an item is put at the place that is a number modulo 256
  Fits-put : (s : State) (p q : ℕ) → Fits db s → Fits db (redrawn (moved s p (q % 256)))
  Fits-put s p q fits =
      let there : IsTrue (is_place (q % 256)) = grind (arith, nat_tests) in
      Fits-redraw _ true (Fits-moved s p (q % 256) there fits)

  -- an opcode moves items
  pub Fits-items_moved : (op : ItemOp) (p q : ℕ) (s : State) → Fits db s → Fits db (items_moved op p q s)
  Fits-items_moved Drop p q s fits = Fits-moved s p s.room (place_from_room s.room fits.rooms.room) fits
  Fits-items_moved Remove p q s fits = Fits-moved s p 0 refl fits
  Fits-items_moved Put p q s fits = cond_both (has_item s p) _ _ (Fits db) (λ _. Fits-put s p q fits) (λ _. fits)
  Fits-items_moved Swap p q s fits = Fits-swapped s p q fits
  Fits-items_moved Take p q s fits = Fits-moved s p carried_place refl fits
  Fits-items_moved Join p q s fits = Fits-moved s p (place_of s q) (is_place-place_of s q fits) fits

  -- the lamp is carried, and its light lasts as long as at the start
  pub Fits-refilled : (s : State) → Fits db s → Fits db (refilled db s)
  Fits-refilled s fits =
      let range : (negsuc 0 ≤ℤ db.header.light) × (db.header.light ≤ℤ db.header.light) = omega (arith, ints) in
      Fits-moved _ lamp carried_place refl (Fits-with_flag _ out_flag false (Fits-light s db.header.light range fits))

  -- ---- the room, flags and the counter

  -- the room is exchanged for a backup room
  Fits-room_swapped : (s : State) (p : ℕ) → Fits db s → Fits db (record s { room = slice_index s.rooms p; rooms = slice_set s.rooms p s.room; redraw = true })
  Fits-room_swapped s p fits =
      let room = list_all-get_or (is_room_of db) s.rooms p 0 is_room-zero fits.rooms.rooms in
      let rooms = list_all-set (is_room_of db) s.rooms p s.room fits.rooms.room fits.rooms.rooms in
      let count = length-set s.rooms p s.room ∙ fits.rooms.count in
      assumption (room, rooms, count)

  -- an opcode changes the room
  pub Fits-room_changed : (op : RoomOp) (p : ℕ) (s : State) → Fits db s → Fits db (room_changed db op p s)
  Fits-room_changed Go p s fits =
      cond_both (is_room_of db p) _ _ (Fits db) (λ is_room. Fits-redraw _ true (Fits-room s p is_room fits)) (λ _. fits)
  Fits-room_changed SwapSaved p s fits = assumption
  Fits-room_changed SwapRoom p s fits = cond_both (nat_lt p 16) _ _ (Fits db) (λ _. Fits-room_swapped s p fits) (λ _. fits)

  -- a flag is changed where it is there
  Fits-flag_there : (s : State) (flag : ℕ) (on : Bool) → Fits db s → Fits db (if nat_lt flag 32 then with_flag s flag on else s)
  Fits-flag_there s flag on fits = cond_both (nat_lt flag 32) _ _ (Fits db) (λ _. Fits-with_flag s flag on fits) (λ _. fits)

  -- an opcode changes a flag
  pub Fits-flag_changed : (op : FlagOp) (p : ℕ) (s : State) → Fits db s → Fits db (flag_changed op p s)
  Fits-flag_changed Darken p s fits = Fits-with_flag s dark_flag true fits
  Fits-flag_changed Lighten p s fits = Fits-with_flag s dark_flag false fits
  Fits-flag_changed SetFlag p s fits = Fits-flag_there s p true fits
  Fits-flag_changed ClearFlag p s fits = Fits-flag_there s p false fits
  Fits-flag_changed SetZero p s fits = Fits-with_flag s 0 true fits
  Fits-flag_changed ClearZero p s fits = Fits-with_flag s 0 false fits

  -- the counter is exchanged for a backup counter
  Fits-counter_swapped : (s : State) (p : ℕ) → Fits db s → Fits db (record s { counter = slice_index_or s.counters p (pos 0); counters = slice_set s.counters p s.counter })
  Fits-counter_swapped s p fits =
      let counter = list_all-get_or is_counter s.counters p (pos 0) refl fits.counters.counters in
      let counters = list_all-set is_counter s.counters p s.counter fits.counters.counter fits.counters.counters in
      let count = length-set s.counters p s.counter ∙ fits.counters.count in
      assumption (counter, counters, count)

  -- an opcode changes the counter
  pub Fits-counter_changed : (op : CounterOp) (p : ℕ) (s : State) → Fits db s → Fits db (counter_changed op p s)
  Fits-counter_changed Down p s fits =
      cond_both (int_le (pos 0) s.counter) _ _ (Fits db)
      (λ positive. Fits-with_counter s _ (is_counter-less_one s.counter fits.counters.counter positive) fits) (λ _. fits)
  Fits-counter_changed SetCounter p s fits = Fits-with_counter s _ (is_counter-set p) fits
  Fits-counter_changed SwapCounter p s fits = cond_both (nat_lt p 16) _ _ (Fits db) (λ _. Fits-counter_swapped s p fits) (λ _. fits)
  Fits-counter_changed Add p s fits = Fits-with_counter s _ (is_counter-more s.counter p fits.counters.counter) fits
  Fits-counter_changed Subtract p s fits = Fits-with_counter s _ (is_counter-less s.counter p fits.counters.counter) fits

  -- ---- the dead

  -- the dead wake in the highest room
  pub Fits-dead : (s : State) → Fits db s → Fits db (dead db s)
  Fits-dead s fits = Fits-room _ (last_room db) is_room-last (Fits-with_flag s dark_flag false fits)
