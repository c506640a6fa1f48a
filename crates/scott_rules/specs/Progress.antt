-- A state, and the game's ending where it ended there: parts of a turn, one after the other.
use Rattle.std.specs.Prelude.{ℕ, Option, Some, None}
use Rattle.adv_io.specs.Steps.{Traced, after}
use Rattle.scott_types.specs.declared.states.State.{State}

pub record Progress : Type 0 where
  pub state : State
  pub over : Option ℕ

abbrev pub goes_on : State → Progress
goes_on s = record { state = s; over = None }

-- what comes next is done unless the game is over
abbrev pub then_if_on : {E : Type 0} → Option ℕ → Traced E Progress → (State → Traced E Progress)
    → Traced E Progress
then_if_on None t next = after t.events (next t.value.state)
then_if_on (Some ending) t next = t

abbrev pub and_then : {E : Type 0} → Traced E Progress → (State → Traced E Progress)
    → Traced E Progress
and_then t next = then_if_on t.value.over t next
