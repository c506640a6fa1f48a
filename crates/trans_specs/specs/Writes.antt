-- What is written to a variable or an entry that shows a state.
use Rattle.std.specs.Prelude.{◌≡◌, ℕ, ◌<◌, ℤ, pos, Bool, List, length, set, slice_set, codes, Some}
use Rattle.scott_types.specs.declared.states.State.{State}
use Rattle.scott_types.specs.State.{with_place, with_flag}
use Rattle.inform_logic.specs.Stages.{Stage, with_global, with_array}
use Rattle.trans_specs.specs.Tables.{bit}
use Rattle.trans_specs.specs.Views.{Shows}

-- a change of the state, and the change of the stage that shows it
abbrev pub ShowsAfter : (State → State) → (Stage → Stage) → Type 0
ShowsAfter changed written = (s : State) (w : Stage) → Shows s w → Shows (changed s) (written w)

-- The state with another room, saved room, counter, light or mark is shown where the global of it
-- is written.
pub record GlobalsWritten : Type 0 where
  pub room : (r : ℕ) → ShowsAfter (λ s. record s { room = r })
      (with_global (codes "here") (pos r))
  pub saved_room : (r : ℕ) → ShowsAfter (λ s. record s { saved = r })
      (with_global (codes "saved") (pos r))
  pub count : (z : ℤ) → ShowsAfter (λ s. record s { counter = z }) (with_global (codes "cur") z)
  pub light_left : (z : ℤ) → ShowsAfter (λ s. record s { light = z })
      (with_global (codes "light") z)
  pub mark : (b : Bool) → ShowsAfter (λ s. record s { redraw = b })
      (with_global (codes "redraw") (pos (bit b)))

-- The state with another place, flag, backup counter or backup room is shown where the entry of it
-- is written.
pub record EntriesWritten : Type 0 where
  pub place : (s : State) (w : Stage) (item at : ℕ) (entries : List ℤ) → Shows s w
      → item < length s.places.items → w.arrays (codes "item") ≡ Some entries
      → Shows (with_place s item at) (with_array (codes "item") (set entries item (pos at)) w)
  pub flag : (s : State) (w : Stage) (n : ℕ) (on : Bool) (entries : List ℤ) → Shows s w
      → w.arrays (codes "flag") ≡ Some entries
      → Shows (with_flag s n on) (with_array (codes "flag") (set entries n (pos (bit on))) w)
  pub backup_counter : (s : State) (w : Stage) (p : ℕ) (z : ℤ) (entries : List ℤ) → Shows s w
      → w.arrays (codes "ctr") ≡ Some entries
      → Shows (record s { counters = slice_set s.counters p z })
      (with_array (codes "ctr") (set entries p z) w)
  pub backup_room : (s : State) (w : Stage) (p r : ℕ) (entries : List ℤ) → Shows s w
      → w.arrays (codes "rsave") ≡ Some entries
      → Shows (record s { rooms = slice_set s.rooms p r })
      (with_array (codes "rsave") (set entries p (pos r)) w)
