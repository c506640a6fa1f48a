-- A console in memory: its history, and what it keeps of it.
use Rattle.std.specs.Prelude.{ℕ, ◌+◌, ◌-◌, ◌≤◌, nat_le, List, [], ◌∷◌, ◌++◌, length, take, drop, Some, if◌then◌else◌}
use Rattle.adv_io.specs.History.{says}
use Rattle.adv_io.specs.Console.{ConsoleView}
use Rattle.adv_io.specs.CallCount.{CallCount, unused, fails_next, after_next, with_fault}
use Rattle.adv_io.specs.declared.events.Event.{Event}
use Rattle.adv_io.specs.declared.events.Event.TheVariants.{Take}

-- the history, the lines that are left, how many more bytes there is room for, and the calls
pub record Recorded : Type 0 where
  pub history : List Event
  pub left : List (List ℕ)
  pub room : ℕ
  pub calls : CallCount

-- what a clause sees of it as of every console
abbrev pub seen_of : Recorded → ConsoleView
seen_of c =
    record {
      history = Some c.history;
      left = Some c.left;
      bound = length c.left;
      faults = c.calls.faults;
    }

-- nothing said or taken yet
abbrev pub untouched : List (List ℕ) → List ℕ → ℕ → Recorded
untouched lines failing room =
    record { history = []; left = lines; room = room; calls = unused failing }

-- bytes that fit were said
abbrev pub with_said : Recorded → List ℕ → Recorded
with_said c bytes = record c { history = c.history ++ says bytes; room = c.room - length bytes }

-- as many bytes as fit were said, and a fault was counted
abbrev pub with_prefix_said : Recorded → List ℕ → Recorded
with_prefix_said c bytes = record (with_said c (take c.room bytes)) { calls = with_fault c.calls }

-- the next line was taken, if there is one
abbrev pub with_taken : Recorded → List (List ℕ) → Recorded
with_taken c [] = c
with_taken c (line ∷ lines) = record c { history = c.history ++ Take line ∷ []; left = lines }

-- one more call was counted
abbrev pub called : Recorded → Recorded
called c = record c { calls = after_next c.calls }

-- a say whose number fails changes nothing else; another says what there is room for
abbrev pub after_saying : Recorded → List ℕ → Recorded
after_saying c bytes =
    if fails_next c.calls then called c else
    if nat_le (length bytes) c.room then with_said (called c) bytes
    else with_prefix_said (called c) bytes

-- a take whose number fails changes nothing else; another takes the next line
abbrev pub after_taking : Recorded → Recorded
after_taking c = if fails_next c.calls then called c else with_taken (called c) c.left

-- ---- what is kept of the history

-- The events that are still to come, after a number of said bytes: the other said bytes, and each
-- line at its mark, which is the number of bytes said before it.
abbrev pub retold : ℕ → List ℕ → List ℕ → List (List ℕ) → List Event
retold at said [] lines = says said
retold at said (mark ∷ marks) [] = says said
retold at said (mark ∷ marks) (line ∷ lines) =
    says (take (mark - at) said) ++ (Take line ∷ retold mark (drop (mark - at) said) marks lines)

-- marks rise from a first number of bytes to a last one
abbrev pub AreMarks : ℕ → List ℕ → ℕ → Type 0
AreMarks first [] last = first ≤ last
AreMarks first (mark ∷ marks) last = (first ≤ mark) × AreMarks mark marks last

-- what is kept is in order, and there is room for all that can be said and taken
pub record IsKept (said marks : List ℕ) (lines : List (List ℕ)) (room said_places mark_places : ℕ)
    : Type 0 where
  pub in_order : AreMarks 0 marks (length said)
  pub taken : length marks ≤ length lines
  pub said_fits : length said + room ≤ said_places
  pub marks_fit : length lines ≤ mark_places
