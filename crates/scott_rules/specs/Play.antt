-- A play, from any position, under the lines and draws that are left.
use Rattle.std.specs.Prelude.{ℕ, List, [], ◌∷◌}
use Rattle.scott_types.specs.declared.states.State.{State}
use Rattle.scott_types.specs.declared.endings.Position.{Position}
use Rattle.scott_types.specs.declared.endings.Position.TheVariants.{Fresh, Draw, Line, Over}
use Rattle.scott_types.specs.declared.endings.Ending.{Ending}
use Rattle.scott_types.specs.declared.endings.Ending.TheVariants.{NeedsLine, NeedsDraw, Over as Ended}
use Rattle.scott_types.specs.Style.{Game}
use Rattle.scott_types.specs.State.{start}
use Rattle.adv_io.specs.Steps.{Step, Traced, after, traced}
use Rattle.scott_rules.specs.Rounds.{RoundEnd, advance, answer}

-- where a play stopped: its position and state, and the lines and draws that are left
pub record PlayEnd : Type 0 where
  pub position : Position
  pub state : State
  pub lines : List (List ℕ)
  pub draws : List ℕ

abbrev pub stopped : List (List ℕ) → Traced Step RoundEnd → Traced Step PlayEnd
stopped lines t =
    traced t.events
    (record {
      position = t.value.position;
      state = t.value.state;
      lines = lines;
      draws = t.value.draws;
    })

-- at the prompt the line is answered, and the play goes on; at any other position it has stopped
abbrev pub with_line : Position → Game → List ℕ → List (List ℕ) → Traced Step RoundEnd
    → (Position → State → List ℕ → Traced Step PlayEnd) → Traced Step PlayEnd
with_line Line game line lines t next =
    let a = answer game line t.value.state in
    after t.events (after a.events (next a.value.position a.value.state t.value.draws))
with_line _ game line lines t next = stopped (line ∷ lines) t

-- the rounds from a position on, until a line or a draw is wanted and none is left, or the game is
-- over
unfoldable pub go : Game → Position → State → List (List ℕ) → List ℕ → Traced Step PlayEnd
go game position s [] draws = stopped [] (advance game position s draws)
go game position s (line ∷ lines) draws =
    let t = advance game position s draws in
    with_line t.value.position game line lines t (λ p r ds. go game p r lines ds)

-- a play from the beginning
abbrev pub play : Game → List (List ℕ) → List ℕ → Traced Step PlayEnd
play game lines draws = go game Fresh (start game.db) lines draws

-- why a play stopped; none stops where a round begins
abbrev pub ending_of : Position → Ending
ending_of Fresh = NeedsLine
ending_of (Draw head) = NeedsDraw
ending_of Line = NeedsLine
ending_of (Over ending) = Ended ending
