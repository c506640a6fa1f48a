-- A game that is being played, and what a play of it does.
use Rattle.std.specs.Prelude.{◌≡◌, ℕ, ◌+◌, Bool, List, ◌++◌, length, Some, Result, OnOk, OnErr, IfOk}
use Rattle.adv_draws.specs.Supply.{Supply}
use Rattle.adv_io.specs.History.{grown, GrewByPrefix, shown, draws_taken}
use Rattle.adv_io.specs.declared.faults.ConsoleFault.{ConsoleFault}
use Rattle.adv_io.specs.Console.{ConsoleView}
use Rattle.scott_types.specs.declared.states.State.{State}
use Rattle.scott_types.specs.declared.endings.Position.{Position}
use Rattle.scott_types.specs.declared.endings.Ending.{Ending}
use Rattle.scott_types.specs.declared.endings.Ending.TheVariants.{Over}
use Rattle.scott_types.specs.Style.{Game}
use Rattle.adv_io.specs.Steps.{Step, Traced, after, trace_of}
use Rattle.scott_rules.specs.Play.{PlayEnd, go, ending_of}
use Rattle.scott_rules.specs.Laws.{IsEnding}

-- the game, where its play stands, whether a failure of the console broke it, and how often each
-- line was tried
pub record SessionView : Type 0 where
  pub game : Game
  pub position : Position
  pub state : State
  pub broken : Bool
  pub tried : List ℕ

-- what a session does from where it stands, on these lines and draws
abbrev pub goes : SessionView → List (List ℕ) → List ℕ → Traced Step PlayEnd
goes session lines draws = go session.game session.position session.state lines draws

-- what a play leaves is what the rules leave: where it stands, its state, the draws, and why it
-- stopped
pub record Leaves (t : Traced Step PlayEnd) (new : SessionView) (before now : Supply) (why : Ending)
    : Type 0 where
  pub position : new.position ≡ t.value.position
  pub state : new.state ≡ t.value.state
  pub draws : now.left ≡ t.value.draws
  pub taken : now.taken ≡ before.taken + length (draws_taken (trace_of t.events))
  pub ending : why ≡ ending_of t.value.position

-- a game that is over ended with 1 by an opcode, 2 by a fall in the dark or 3 by a full score
abbrev pub EndingIsKnown : Ending → Type 0
EndingIsKnown (Over ending) = IsEnding ending
EndingIsKnown _ = Unit

-- a play on a console whose lines are known: what it shows is what the rules give, and a failure
-- shows a prefix of that
pub record Plays (old_console new_console : ConsoleView) (result : Result Ending ConsoleFault)
    (t : Traced Step PlayEnd) (new : SessionView) (before now : Supply) : Type 0 where
  pub shows : OnOk result
      (new_console.history ≡ grown old_console.history (shown (trace_of t.events)))
  pub part : OnErr result
      (GrewByPrefix old_console.history new_console.history (shown (trace_of t.events)))
  pub lines : OnOk result (new_console.left ≡ Some t.value.lines)
  pub leaves : IfOk result (λ ending. Leaves t new before now ending)

-- a play that stopped, gone on with more lines and draws, is the play on the joined lists
abbrev pub GoesOn : SessionView → SessionView → List (List ℕ) → List ℕ → Traced Step PlayEnd
    → Type 0
GoesOn old new lines draws t =
    (more : List (List ℕ)) (further : List ℕ)
    → go old.game old.position old.state (lines ++ more) (draws ++ further)
    ≡ after t.events
    (go old.game new.position new.state (t.value.lines ++ more) (t.value.draws ++ further))
