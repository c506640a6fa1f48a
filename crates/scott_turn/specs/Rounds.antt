-- One round of a play, on a console whose lines are known.
use Rattle.std.specs.Prelude.{◌≡◌, ℕ, Bool, true, false, List, [], ◌∷◌, Option, Some, None, Result, Ok, Err, OnOk, OnErr, IfOk}
use Rattle.adv_io.specs.History.{grown, GrewByPrefix}
use Rattle.adv_io.specs.declared.faults.ConsoleFault.{ConsoleFault}
use Rattle.adv_io.specs.Console.{ConsoleView}
use Rattle.scott_types.specs.declared.states.State.{State}
use Rattle.scott_types.specs.declared.endings.Position.{Position}
use Rattle.scott_types.specs.declared.endings.Position.TheVariants.{Line}
use Rattle.scott_types.specs.Style.{Game}
use Rattle.adv_io.specs.Steps.{Step, Traced, after, shown_of, traced}
use Rattle.scott_rules.specs.Rounds.{answer}
use Rattle.scott_rules.specs.Play.{PlayEnd, go}
use Rattle.scott_turn.specs.declared.rounds.Round.{Round}

abbrev pub is_prompt : Position → Bool
is_prompt Line = true
is_prompt _ = false

-- what the answer to the next line tells, where there is one
abbrev pub next_answer : Game → List (List ℕ) → State → List Step
next_answer game [] s = []
next_answer game (line ∷ lines) s = (answer game line s).events

-- what an answer to the next line gives: none without a line, else where the play stands then
abbrev pub AnswersNext : (old new : ConsoleView) → Game → List (List ℕ)
    → Result (Option Position) ConsoleFault → (before now : State) → Type 0
AnswersNext old new game [] (Ok None) before now =
    (new.history ≡ old.history) × (new.left ≡ Some []) × (now ≡ before)
AnswersNext old new game [] (Ok (Some position)) before now = ⊥
AnswersNext old new game (line ∷ lines) (Ok None) before now = ⊥
AnswersNext old new game (line ∷ lines) (Ok (Some position)) before now =
    (new.history ≡ grown old.history (shown_of (answer game line before).events))
    × (new.left ≡ Some lines)
    × ((answer game line before).value ≡ record { position = position; state = now })
AnswersNext old new game lines (Err fault) before now =
    GrewByPrefix old.history new.history (shown_of (next_answer game lines before))

-- the play from where a round left it: it has stopped there, or it goes on
abbrev pub from_there : Bool → Game → Position → State → List (List ℕ) → List ℕ
    → Traced Step PlayEnd
from_there true game position s lines draws =
    traced [] (record { position = position; state = s; lines = lines; draws = draws })
from_there false game position s lines draws = go game position s lines draws

-- a round was done: the whole play is what it showed, and then the play from there
pub record Went (old new : ConsoleView) (whole : Traced Step PlayEnd) (game : Game) (round : Round)
    (s : State) (draws : List ℕ) : Type 0 where
  pub done : List Step
  pub rest : List (List ℕ)
  pub grew : new.history ≡ grown old.history (shown_of done)
  pub lines : new.left ≡ Some rest
  pub whole_is : whole ≡ after done (from_there round.stopped game round.position s rest draws)

-- what a round gives, where the whole play is this one
pub record GoesRound (old new : ConsoleView) (result : Result Round ConsoleFault)
    (whole : Traced Step PlayEnd) (game : Game) (s : State) (draws : List ℕ) : Type 0 where
  pub went : IfOk result (λ round. Went old new whole game round s draws)
  pub part : OnErr result (GrewByPrefix old.history new.history (shown_of whole.events))

-- what a whole play gives on such a console, where the play of the rules is this one
pub record PlaysOut (old new : ConsoleView) (result : Result Position ConsoleFault)
    (whole : Traced Step PlayEnd) (s : State) (draws : List ℕ) : Type 0 where
  pub shows : OnOk result (new.history ≡ grown old.history (shown_of whole.events))
  pub part : OnErr result (GrewByPrefix old.history new.history (shown_of whole.events))
  pub lines : OnOk result (new.left ≡ Some whole.value.lines)
  pub leaves : IfOk result
      (λ position. whole.value
      ≡ record { position = position; state = s; lines = whole.value.lines; draws = draws })
