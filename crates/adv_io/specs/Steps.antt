-- The steps of a play: what happens in it, what is seen of that, and what it takes.
use Rattle.std.specs.Prelude.{ℕ, ◌≡◌, List, ◌++◌, map, Option, Some, None}
use Rattle.std.specs.List.{filter_map}
use Rattle.adv_io.specs.History.{shown, lines_taken, draws_taken}
use Rattle.adv_io.specs.declared.events.Event.{Event}
use Rattle.adv_io.specs.declared.events.Event.TheVariants.{Say, Take, Draw}

-- a byte was said, a line was taken, a draw was taken, or a part of the program was entered that
-- has this number
pub data Step : Type 0 where
  Said : ℕ → Step
  Took : List ℕ → Step
  Drew : ℕ → Step
  Noted : ℕ → Step

-- steps in order, and a value: a state, or more that is left
pub record Traced (E R : Type 0) : Type 0 where
  pub events : List E
  pub value : R

abbrev pub traced : {E R : Type 0} → List E → R → Traced E R
traced events value = record { events = events; value = value }

-- the same after some steps
abbrev pub after : {E R : Type 0} → List E → Traced E R → Traced E R
after events t = record { events = events ++ t.events; value = t.value }

-- ---- what only says bytes

abbrev pub said_steps : List ℕ → List Step
said_steps bytes = map Said bytes

abbrev pub traced_text : {R : Type 0} → List ℕ → R → Traced Step R
traced_text bytes value = traced (said_steps bytes) value

-- bytes as steps
abbrev pub as_steps : {R : Type 0} → Traced ℕ R → Traced Step R
as_steps t = traced_text t.events t.value

-- ---- what is seen of steps

abbrev pub event_of : Step → Option Event
event_of (Said byte) = Some (Say byte)
event_of (Took line) = Some (Take line)
event_of (Drew draw) = Some (Draw draw)
event_of (Noted number) = None

-- The events: bytes, lines and draws.
abbrev pub trace_of : List Step → List Event
trace_of steps = filter_map event_of steps

-- what a console shows of them: the bytes that were said and the lines that were taken
abbrev pub shown_of : List Step → List Event
shown_of steps = shown (trace_of steps)

abbrev pub noted_of : Step → Option ℕ
noted_of (Noted number) = Some number
noted_of _ = None

-- the numbers of the parts that were entered
abbrev pub noted : List Step → List ℕ
noted steps = filter_map noted_of steps

-- ---- what steps take

-- what the steps take and draw, followed by what is left after them, is what there was before them
pub record Spends (lines : List (List ℕ)) (draws : List ℕ) (steps : List Step)
    (lines_left : List (List ℕ)) (draws_left : List ℕ) : Type 0 where
  pub lines_spent : lines_taken (trace_of steps) ++ lines_left ≡ lines
  pub draws_spent : draws_taken (trace_of steps) ++ draws_left ≡ draws
