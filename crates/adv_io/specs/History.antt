-- Histories: what was said and taken, and how it grows.
use Rattle.std.specs.Prelude.{◌≡◌, ℕ, ◌+◌, List, [], ◌∷◌, ◌++◌, map, Option, Some, None}
use Rattle.std.specs.List.{filter_map}
use Rattle.adv_io.specs.declared.events.Event.{Event}
use Rattle.adv_io.specs.declared.events.Event.TheVariants.{Say, Take, Draw}

-- each byte said, in order
abbrev pub says : List ℕ → List Event
says bytes = map Say bytes

-- a history with more events after it, where it is known
abbrev pub grown : Option (List Event) → List Event → Option (List Event)
grown None events = None
grown (Some history) events = Some (history ++ events)

-- a history grew by a prefix of some events, as after a failure
pub record GrewByPrefix (old new : Option (List Event)) (all : List Event) : Type 0 where
  pub done : List Event
  pub rest : List Event
  pub whole : done ++ rest ≡ all
  pub grew : new ≡ grown old done

-- ---- the three kinds of events in a trace

abbrev pub byte_said : Event → Option ℕ
byte_said (Say byte) = Some byte
byte_said _ = None

-- the bytes that were said
abbrev pub transcript : List Event → List ℕ
transcript events = filter_map byte_said events

abbrev pub line_taken : Event → Option (List ℕ)
line_taken (Take line) = Some line
line_taken _ = None

-- the lines that were taken
abbrev pub lines_taken : List Event → List (List ℕ)
lines_taken events = filter_map line_taken events

abbrev pub draw_taken : Event → Option ℕ
draw_taken (Draw draw) = Some draw
draw_taken _ = None

-- the draws that were taken
abbrev pub draws_taken : List Event → List ℕ
draws_taken events = filter_map draw_taken events

abbrev pub shown_event : Event → Option Event
shown_event (Draw draw) = None
shown_event event = Some event

-- the events that a console sees: all but the draws
abbrev pub shown : List Event → List Event
shown events = filter_map shown_event events

-- ---- where the lines were taken

-- for each taken line how many bytes were said before it, from a first number on
abbrev pub marks_from : ℕ → List Event → List ℕ
marks_from said [] = []
marks_from said (Say byte ∷ events) = marks_from (said + 1) events
marks_from said (Take line ∷ events) = said ∷ marks_from said events
marks_from said (Draw draw ∷ events) = marks_from said events

abbrev pub marks : List Event → List ℕ
marks events = marks_from 0 events
