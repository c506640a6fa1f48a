-- The state that a stage shows.
use Rattle.std.specs.Prelude.{◌≡◌, ℕ, ℤ, pos, List, [], ◌∷◌, ◌++◌, map, codes, Option, Some}
use Rattle.scott_types.specs.declared.states.State.{State}
use Rattle.inform_logic.specs.Stages.{Stage}
use Rattle.trans_specs.specs.Tables.{bit}

-- the entries of numbers
abbrev pub naturals : List ℕ → List ℤ
naturals xs = map pos xs

-- The room, the saved room, the counter, the light and the mark of a state are globals, and its
-- places, flags, backup counters and backup rooms are the entries of arrays. A flag and the mark
-- are 1 or 0. The places are followed by a guard entry, whatever it is.
pub record Seen (s : State) (here saved cur light redraw : Option ℤ)
    (item flag ctr rsave : Option (List ℤ)) : Type 0 where
  pub room_is : here ≡ Some (pos s.room)
  pub saved_is : saved ≡ Some (pos s.saved)
  pub counter_is : cur ≡ Some s.counter
  pub light_is : light ≡ Some s.light
  pub mark_is : redraw ≡ Some (pos (bit s.redraw))
  pub guard : ℤ
  pub places_are : item ≡ Some (naturals s.places.items ++ guard ∷ [])
  pub flags_are : flag ≡ Some (naturals (map bit s.flags))
  pub counters_are : ctr ≡ Some s.counters
  pub rooms_are : rsave ≡ Some (naturals s.rooms)

-- a stage shows a state
abbrev pub Shows : State → Stage → Type 0
Shows s w = Seen s (w.globals (codes "here")) (w.globals (codes "saved")) (w.globals (codes "cur"))
    (w.globals (codes "light")) (w.globals (codes "redraw"))
    (w.arrays (codes "item")) (w.arrays (codes "flag")) (w.arrays (codes "ctr"))
    (w.arrays (codes "rsave"))

-- the globals and the arrays that show it
abbrev pub shown_globals : List (List ℕ)
shown_globals =
    codes "here" ∷ codes "saved" ∷ codes "cur" ∷ codes "light" ∷ codes "redraw" ∷ []

abbrev pub shown_arrays : List (List ℕ)
shown_arrays = codes "item" ∷ codes "flag" ∷ codes "ctr" ∷ codes "rsave" ∷ []
