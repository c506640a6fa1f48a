-- A state is shown where what shows it is written.
use Rattle.std.proofs.Common.{◌≡◌, ◌∙◌, arith, ℕ, ◌<◌, ℤ, pos, Bool, List, [], ◌∷◌, ◌++◌, map, length, set, codes, Option, Some, unwrap_or, refl, sym, ap}
use Rattle.std.proofs.lemmas.List.{length-map, map-set, set-append_left}
use Rattle.scott_types.specs.declared.states.State.{State}
use Rattle.scott_types.specs.State.{with_place, with_flag}
use Rattle.inform_logic.specs.Stages.{Stage, with_array}
use Rattle.trans_specs.specs.Tables.{bit}
use Rattle.trans_specs.specs.Views.{naturals, Shows}
use Rattle.trans_specs.specs.Writes.{GlobalsWritten, EntriesWritten}

-- where a global is written, the stage shows the state with that part of it changed
pub globals_written : GlobalsWritten
globals_written = record {
  room = λ r s w h. record {
    room_is = refl;
    saved_is = h.saved_is;
    counter_is = h.counter_is;
    light_is = h.light_is;
    mark_is = h.mark_is;
    guard = h.guard;
    places_are = h.places_are;
    flags_are = h.flags_are;
    counters_are = h.counters_are;
    rooms_are = h.rooms_are;
  };
  saved_room = λ r s w h. record {
    room_is = h.room_is;
    saved_is = refl;
    counter_is = h.counter_is;
    light_is = h.light_is;
    mark_is = h.mark_is;
    guard = h.guard;
    places_are = h.places_are;
    flags_are = h.flags_are;
    counters_are = h.counters_are;
    rooms_are = h.rooms_are;
  };
  count = λ z s w h. record {
    room_is = h.room_is;
    saved_is = h.saved_is;
    counter_is = refl;
    light_is = h.light_is;
    mark_is = h.mark_is;
    guard = h.guard;
    places_are = h.places_are;
    flags_are = h.flags_are;
    counters_are = h.counters_are;
    rooms_are = h.rooms_are;
  };
  light_left = λ z s w h. record {
    room_is = h.room_is;
    saved_is = h.saved_is;
    counter_is = h.counter_is;
    light_is = refl;
    mark_is = h.mark_is;
    guard = h.guard;
    places_are = h.places_are;
    flags_are = h.flags_are;
    counters_are = h.counters_are;
    rooms_are = h.rooms_are;
  };
  mark = λ b s w h. record {
    room_is = h.room_is;
    saved_is = h.saved_is;
    counter_is = h.counter_is;
    light_is = h.light_is;
    mark_is = refl;
    guard = h.guard;
    places_are = h.places_are;
    flags_are = h.flags_are;
    counters_are = h.counters_are;
    rooms_are = h.rooms_are;
  };
}

-- the entries of an array that are known in two ways
same_entries : {o : Option (List ℤ)} {xs ys : List ℤ} → o ≡ Some xs → o ≡ Some ys → xs ≡ ys
same_entries h k = ap (λ (o : Option (List ℤ)). unwrap_or o []) (sym h ∙ k)

place_set : (places : List ℕ) (guard : ℤ) (item at : ℕ) → item < length places
    → set (naturals places ++ guard ∷ []) item (pos at)
    ≡ naturals (set places item at) ++ guard ∷ []
place_set places guard item at less =
    set-append_left (naturals places) (guard ∷ []) item (pos at)
    (omega (arith, less, length-map places pos))
    ∙ ap (λ (zs : List ℤ). zs ++ guard ∷ []) (sym (map-set pos places item at))

flag_set : (flags : List Bool) (n : ℕ) (on : Bool)
    → set (naturals (map bit flags)) n (pos (bit on)) ≡ naturals (map bit (set flags n on))
flag_set flags n on = sym (ap (map pos) (map-set bit flags n on)
    ∙ map-set pos (map bit flags) n (bit on))

-- where an entry of `item` is written, the stage shows the state with the item at that place
place : (s : State) (w : Stage) (item at : ℕ) (entries : List ℤ) → Shows s w
    → item < length s.places.items → w.arrays (codes "item") ≡ Some entries
    → Shows (with_place s item at) (with_array (codes "item") (set entries item (pos at)) w)
place s w item at entries h less there = record {
  room_is = h.room_is;
  saved_is = h.saved_is;
  counter_is = h.counter_is;
  light_is = h.light_is;
  mark_is = h.mark_is;
  guard = h.guard;
  places_are = ap (λ (zs : List ℤ). Some (set zs item (pos at)))
      (same_entries there h.places_are)
      ∙ ap Some (place_set s.places.items h.guard item at less);
  flags_are = h.flags_are;
  counters_are = h.counters_are;
  rooms_are = h.rooms_are;
}

-- where an entry of `flag` is written, the stage shows the state with the flag so
flag : (s : State) (w : Stage) (n : ℕ) (on : Bool) (entries : List ℤ) → Shows s w
    → w.arrays (codes "flag") ≡ Some entries
    → Shows (with_flag s n on) (with_array (codes "flag") (set entries n (pos (bit on))) w)
flag s w n on entries h there = record {
  room_is = h.room_is;
  saved_is = h.saved_is;
  counter_is = h.counter_is;
  light_is = h.light_is;
  mark_is = h.mark_is;
  guard = h.guard;
  places_are = h.places_are;
  flags_are = ap (λ (zs : List ℤ). Some (set zs n (pos (bit on))))
      (same_entries there h.flags_are)
      ∙ ap Some (flag_set s.flags n on);
  counters_are = h.counters_are;
  rooms_are = h.rooms_are;
}

-- where an entry of `ctr` is written, the stage shows the state with that backup counter
backup_counter : (s : State) (w : Stage) (p : ℕ) (z : ℤ) (entries : List ℤ) → Shows s w
    → w.arrays (codes "ctr") ≡ Some entries
    → Shows (record s { counters = set s.counters p z })
    (with_array (codes "ctr") (set entries p z) w)
backup_counter s w p z entries h there = record {
  room_is = h.room_is;
  saved_is = h.saved_is;
  counter_is = h.counter_is;
  light_is = h.light_is;
  mark_is = h.mark_is;
  guard = h.guard;
  places_are = h.places_are;
  flags_are = h.flags_are;
  counters_are = ap (λ (zs : List ℤ). Some (set zs p z))
      (same_entries there h.counters_are);
  rooms_are = h.rooms_are;
}

-- where an entry of `rsave` is written, the stage shows the state with that backup room
backup_room : (s : State) (w : Stage) (p r : ℕ) (entries : List ℤ) → Shows s w
    → w.arrays (codes "rsave") ≡ Some entries
    → Shows (record s { rooms = set s.rooms p r })
    (with_array (codes "rsave") (set entries p (pos r)) w)
backup_room s w p r entries h there = record {
  room_is = h.room_is;
  saved_is = h.saved_is;
  counter_is = h.counter_is;
  light_is = h.light_is;
  mark_is = h.mark_is;
  guard = h.guard;
  places_are = h.places_are;
  flags_are = h.flags_are;
  counters_are = h.counters_are;
  rooms_are = ap (λ (zs : List ℤ). Some (set zs p (pos r)))
      (same_entries there h.rooms_are)
      ∙ ap Some (sym (map-set pos s.rooms p r));
}

pub entries_written : EntriesWritten
entries_written = record {
  place = place;
  flag = flag;
  backup_counter = backup_counter;
  backup_room = backup_room;
}
