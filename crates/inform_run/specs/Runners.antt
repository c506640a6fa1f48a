-- A runner, and what a run of it does.
use Rattle.std.specs.Prelude.{ℕ, ◌≡◌, ◌≤◌, ◌+◌, List, [], length, Some, Result, OnOk, OnErr, IfOk}
use Rattle.adv_draws.specs.Supply.{Supply}
use Rattle.adv_io.specs.History.{grown, GrewByPrefix, shown, draws_taken}
use Rattle.adv_io.specs.Steps.{trace_of}
use Rattle.adv_io.specs.Console.{ConsoleView}
use Rattle.adv_io.specs.declared.faults.ConsoleFault.{ConsoleFault}
use Rattle.inform_meaning.specs.Worlds.{Program, World, Config}
use Rattle.inform_meaning.specs.Frames as f
use Rattle.inform_meaning.specs.Frames.{Outcome}
use Rattle.inform_meaning.specs.Runs.{resume, stop_of, begun_of}
use Rattle.inform_meaning.specs.Laws.{with_more, going_on}
use Rattle.inform_worlds.specs.Views as v
use Rattle.inform_worlds.specs.Views.{program_seen}
use Rattle.inform_run.specs.declared.runners.Runner.{Runner}
use Rattle.inform_run.specs.declared.stops.Stop.{Stop}
use Rattle.inform_steps.specs.Pieces.{entered_in}
use Rattle.inform_frames.specs.Stacks.{stack_of}
use Rattle.inform_run.specs.Stops.{stop_seen}

abbrev pub program_run : Runner → Program
program_run r = program_seen r.machine.interpreter.world

-- what has begun and isn't finished, innermost first
abbrev pub begun_in : Runner → List f.Frame
begun_in r = stack_of r.machine.stack

abbrev pub world_in : Runner → World
world_in r = v.world_of r.machine.interpreter.world

-- what is left to a runner that goes on
abbrev pub left_to : Runner → ℕ → List (List ℕ) → List ℕ → Config
left_to r steps lines draws =
    record { steps = steps; lines = lines; draws = draws; past = []; world = world_in r }

-- what the program does as it goes on from there
abbrev pub resumed : Runner → ℕ → List (List ℕ) → List ℕ → Outcome × Config
resumed r steps lines draws = resume (program_run r) (begun_in r) (left_to r steps lines draws)

-- what a run leaves is what the program leaves: what has begun, the world, the draws, the steps
-- that were used, and why it stopped
pub record Leaves (t : Outcome × Config) (steps : ℕ) (old new : Runner) (before now : Supply)
    (answer : Stop) : Type 0 where
  pub begun : begun_in new ≡ begun_of t.0
  pub world : world_in new ≡ t.1.world
  pub draws : now.left ≡ t.1.draws
  pub taken : now.taken ≡ before.taken + length (draws_taken (trace_of t.1.past))
  pub used : new.used + t.1.steps ≡ old.used + steps
  pub stop : stop_seen answer ≡ stop_of t.0

-- a run on a console whose lines are known: what it shows is what the program does, and a failure
-- shows a prefix of that
pub record Runs (old_console new_console : ConsoleView) (result : Result Stop ConsoleFault)
    (steps : ℕ) (t : Outcome × Config) (old new : Runner) (before now : Supply) : Type 0 where
  pub shows : OnOk result
      (new_console.history ≡ grown old_console.history (shown (trace_of t.1.past)))
  pub part : OnErr result
      (GrewByPrefix old_console.history new_console.history (shown (trace_of t.1.past)))
  pub lines : OnOk result (new_console.left ≡ Some t.1.lines)
  pub leaves : IfOk result (λ stop. Leaves t steps old new before now stop)

-- A run that goes no further than to where a call is due: it uses some number of its steps, in
-- which no routine is entered, and with those it does what the program does.
pub record RunsToCall (old_console new_console : ConsoleView) (result : Result Stop ConsoleFault)
    (steps : ℕ) (lines : List (List ℕ)) (old new : Runner) (before now : Supply) : Type 0 where
  pub count : ℕ
  pub few : count ≤ steps
  pub runs : Runs old_console new_console result count (resumed old count lines before.left) old new
      before now
  pub used : OnOk result (new.used ≡ old.used + count)
  pub none : OnOk result (entered_in (program_run old) (begun_in old)
      (left_to old count lines before.left) count ≡ [])

-- a run with more steps, lines and draws is this run gone on with them from where it stopped
abbrev pub GoesOn : Runner → ℕ → List (List ℕ) → List ℕ → Type 0
GoesOn r steps lines draws = (more : ℕ) (further : List (List ℕ)) (drawn : List ℕ)
    → resume (program_run r) (begun_in r)
    (with_more more further drawn (left_to r steps lines draws))
    ≡ going_on (program_run r) more further drawn (resumed r steps lines draws)
