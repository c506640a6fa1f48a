-- The specification of a round, and what the whole of the rounds does.
use Rattle.std.specs.Prelude.{◌≡◌, ℕ, ◌-◌, ◌≤◌, ℤ, pos, List, ◌++◌, length, codes, Some}
use Rattle.std.specs.List.{AllByRecursion}
use Rattle.adv_io.specs.Steps.{Step, Traced}
use Rattle.adv_io.specs.TypedLine.{IsTyped}
use Rattle.adv_draws.specs.Run.{AllDraws}
use Rattle.inform_meaning.specs.Worlds.{Program}
use Rattle.inform_meaning.specs.Frames.{NeedsLine, NeedsDraw}
use Rattle.inform_meaning.specs.Runs.{CALL_LIMIT, Stop}
use Rattle.inform_meaning.specs.Programs.{body_of, main_scope}
use Rattle.inform_logic.specs.Stages.{Stage}
use Rattle.inform_logic.specs.Leading.{Does, TheBlock}
use Rattle.inform_logic.specs.Stopping.{Stops}
use Rattle.scott_types.specs.declared.states.State.{State}
use Rattle.scott_types.specs.declared.endings.Position.{Position}
use Rattle.scott_types.specs.declared.endings.Position.TheVariants.{Fresh, Draw, Line, Over}
use Rattle.scott_types.specs.Database.{Database}
use Rattle.scott_types.specs.Style.{Game}
use Rattle.scott_rules.specs.Play.{PlayEnd, go}
use Rattle.trans_specs.specs.Views.{Shows}
use Rattle.trans_specs.specs.Standing.{StandsFor}
use Rattle.trans_specs.specs.Steps.{round_steps, enough}
use Rattle.trans_specs.specs.Calls.{CallEndsGame, CallWaits}
use Rattle.trans_specs.specs.Rounds.{round}
use Rattle.trans_specs.specs.Same.{EndsAlike}

-- ---- where a round begins, or goes on after its prompt

-- the lines that are left are typed ones, and the draws are 1 to 100
pub record FairStage (w : Stage) : Type 0 where
  pub typed : AllByRecursion IsTyped w.lines
  pub fair : AllDraws w.draws

-- ---- a round

-- it is done: the stage stands for the new state and some noun text
pub record RoundLeaves (db : Database) (w w' : Stage) (t : Traced Step PlayEnd) : Type 0 where
  pub noun : List ℕ
  pub stands : StandsFor db t.value.state noun w'
  pub past_is : w'.past ≡ w.past ++ t.events
  pub lines_left : w'.lines ≡ t.value.lines
  pub draws_left : w'.draws ≡ t.value.draws
  pub over_stays : w'.globals (codes "over") ≡ w.globals (codes "over")

pub record RoundDone (p : Program) (d : ℕ) (name : List ℕ) (values : List ℤ) (w : Stage)
    (db : Database) (t : Traced Step PlayEnd) (most : ℕ) : Type 0 where
  pub value : ℤ
  pub after : Stage
  pub does : Does p d name values w value after most
  pub leaves : RoundLeaves db w after t

-- what becomes of a round: it is done, the run waits for a line or a draw, or the game ends
abbrev pub RoundOutcome : Position → Program → ℕ → List ℕ → List ℤ → Stage → Database
    → Traced Step PlayEnd → ℕ → Type 0
RoundOutcome Fresh p d name values w db t most = RoundDone p d name values w db t most
RoundOutcome (Draw head) p d name values w db t most =
    CallWaits p d name values w NeedsDraw t.value.state t.events most
RoundOutcome Line p d name values w db t most =
    CallWaits p d name values w NeedsLine t.value.state t.events most
RoundOutcome (Over ending) p d name values w db t most =
    CallEndsGame p d name values w t.value.state t.events ending most

abbrev pub lines_spent : Stage → Traced Step PlayEnd → ℕ
lines_spent w t = length w.lines - length t.value.lines

abbrev pub RoundEnds : Game → Program → ℕ → List ℕ → List ℤ → Stage → Traced Step PlayEnd → Type 0
RoundEnds game p d name values w t = RoundOutcome t.value.position p d name values w game.db t
    (round_steps game.db (lines_spent w t))

-- so many calls may be opened where at most 60 of 200 are open
abbrev pub round_room : ℕ
round_room = 140

-- A call with these arguments does a round from this position on: a whole one from where a round
-- begins, and the rest of one from after its prompt.
abbrev pub RoundSpec : Game → Program → List ℕ → List ℤ → Position → Type 0
RoundSpec game p name values position = (s : State) (noun : List ℕ) (w : Stage) (d : ℕ)
    → round_room ≤ d → FairStage w → StandsFor game.db s noun w
    → RoundEnds game p d name values w (round game position s w.lines w.draws)

-- ---- all rounds

-- the body of `main`, with which the run begins, stops as this play does
pub record MainPlays (game : Game) (p : Program) (w : Stage) (t : Traced Step PlayEnd) : Type 0
  where
    pub stop : Stop
    pub after : Stage
    pub stops : Stops p CALL_LIMIT (TheBlock (body_of (p.routines (codes "main"))))
        (main_scope (p.routines (codes "main"))) w stop after (enough game.db (length w.lines))
    pub shows : Shows t.value.state after
    pub past_is : after.past ≡ w.past ++ t.events
    pub ends : EndsAlike t.value.position stop (after.globals (codes "over"))

-- it does the rounds of a play from this position on, and nothing else
abbrev pub MainSpec : Game → Program → Position → Type 0
MainSpec game p position = (s : State) (noun : List ℕ) (w : Stage) → FairStage w
    → StandsFor game.db s noun w → w.globals (codes "over") ≡ Some (pos 0)
    → MainPlays game p w (go game position s w.lines w.draws)
