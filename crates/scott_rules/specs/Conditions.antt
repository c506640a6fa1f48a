-- When a condition holds.
use Rattle.std.specs.Prelude.{ℕ, ◌==◌, Bool, true, not, nat_lt, map, slice_index, pos, int_le, int_lt}
use Rattle.std.specs.Ordering.{int_eq}
use Rattle.scott_types.specs.declared.states.State.{State}
use Rattle.scott_types.specs.declared.conditions.Condition.{Condition}
use Rattle.scott_types.specs.declared.conditions.Condition.TheVariants.{Parameter, Carried, Here, Near, At, NotHere, NotCarried, NotAt, FlagSet, FlagClear, SomeCarried, NoneCarried, NotNear, InGame, OutOfGame, CounterAtMost, CounterOver, AtStart, NotAtStart, CounterIs}
use Rattle.scott_types.specs.Database.{Database, place_of_item}
use Rattle.scott_types.specs.State.{place_of, is_here, is_carried, is_near, carried_count, flag_of}

-- where an item was when the game began; one that isn't there at place 0
abbrev pub start_place : Database → ℕ → ℕ
start_place db item = slice_index (map place_of_item db.items) item

abbrev pub holds : Database → State → ℕ → Condition → Bool
holds db s a Parameter = true
holds db s a Carried = is_carried s a
holds db s a Here = is_here s a
holds db s a Near = is_near s a
holds db s a At = s.room == a
holds db s a NotHere = not (is_here s a)
holds db s a NotCarried = not (is_carried s a)
holds db s a NotAt = not (s.room == a)
holds db s a FlagSet = flag_of s a
holds db s a FlagClear = not (flag_of s a)
holds db s a SomeCarried = nat_lt 0 (carried_count s)
holds db s a NoneCarried = carried_count s == 0
holds db s a NotNear = not (is_near s a)
holds db s a InGame = not (place_of s a == 0)
holds db s a OutOfGame = place_of s a == 0
holds db s a CounterAtMost = int_le s.counter (pos a)
holds db s a CounterOver = int_lt (pos a) s.counter
holds db s a AtStart = place_of s a == start_place db a
holds db s a NotAtStart = not (place_of s a == start_place db a)
holds db s a CounterIs = int_eq s.counter (pos a)
