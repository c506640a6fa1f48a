-- A machine, as the definitions see it, and what a run of it does.
use Rattle.std.specs.Prelude.{ℕ, ◌≡◌, ◌<◌, ◌≤◌, Bool, true, false, List, length, Some, IfOk, Result, Ok, Err, ⊤}
use Rattle.adv_draws.specs.Supply.{Supply, supplied}
use Rattle.adv_io.specs.Steps.{Step}
use Rattle.adv_io.specs.Console.{ConsoleView}
use Rattle.adv_io.specs.declared.faults.ConsoleFault.{ConsoleFault}
use Rattle.adv_io.specs.Faults.{HasCause}
use Rattle.inform_meaning.specs.Frames as f
use Rattle.inform_meaning.specs.Frames.{Outcome, Meaning, gives}
use Rattle.inform_meaning.specs.Runs.{CALL_LIMIT, resume_at, resume, stop_of, begun_of}
use Rattle.inform_moves.specs.Heights.{Fits, calls_open}
use Rattle.inform_moves.specs.Readiness.{IsReady}
use Rattle.inform_steps.specs.Standing.{CallIsDue}
use Rattle.inform_worlds.specs.Views.{world_of}
use Rattle.inform_frames.specs.Stacks.{stack_of}
use Rattle.inform_interpreter.specs.Leading.{MayBeLeft}
use Rattle.inform_interpreter.specs.Interpreters.{program_of}
use Rattle.inform_interpreter.specs.Doing.{Part, Reaches, Breaks}
use Rattle.inform_interpreter.specs.declared.interpreters.Interpreter.{Interpreter}
use Rattle.inform_run.specs.declared.stops.Stop.{Stop}
use Rattle.inform_run.specs.declared.stops.Stop.TheVariants as s
use Rattle.inform_run.specs.Stops.{stop_seen}
use Rattle.inform_run.specs.declared.machines.Machine.{Machine}

-- ---- a machine

-- an interpreter where so many more calls may be open
abbrev pub with_room : ℕ → Interpreter → Interpreter
with_room n i = record i { room = n }

-- each routine keeps within its frames, no more calls are open than may be, where a line is due its
-- buffer has room, and nothing waits in the interpreter
abbrev pub IsFit : Machine → Type 0
IsFit m = Fits (stack_of m.stack) × ((calls_open (stack_of m.stack) ≤ CALL_LIMIT)
    × (IsReady (world_of m.interpreter.world) (stack_of m.stack)
    × (length (stack_of m.interpreter.waiting) ≤ 0)))

-- so it is, unless a failure of the console broke it
abbrev pub IsFitUnless : Bool → Machine → Type 0
IsFitUnless true m = ⊤
IsFitUnless false m = IsFit m

-- these frames go on, the innermost with this outcome
abbrev pub resumed : List f.Frame → Outcome → Part
resumed frames e p call = resume_at p CALL_LIMIT frames e

-- what a machine's frames mean as they go on
abbrev pub going : Machine → Meaning
going m = resume (program_of m.interpreter) (stack_of m.stack)

-- ---- a run of a machine

-- It stopped for this, where these frames have begun and aren't finished. The world, the draws and
-- the lines that are left are those of the frames that went on.
pub record StopsAt (stop : Stop) (old new : Machine) (before after : ConsoleView)
    (drawn draws : List ℕ) (lines : List (List ℕ)) : Type 0 where
  pub outcome : Outcome
  pub stop_is : stop_of outcome ≡ stop_seen stop
  pub begun : begun_of outcome ≡ stack_of new.stack
  pub reaches : Reaches (MayBeLeft outcome) (going old) (gives outcome) old.interpreter
      new.interpreter before after drawn draws lines

-- so it did, or the console failed
abbrev pub StopsOrBreaks : Result Stop ConsoleFault → (old new : Machine)
    → (before after : ConsoleView) → (drawn draws : List ℕ) → (lines : List (List ℕ)) → Type 0
StopsOrBreaks (Ok stop) old new before after drawn draws lines =
    StopsAt stop old new before after drawn draws lines
StopsOrBreaks (Err fault) old new before after drawn draws lines =
    (past : List Step) → Breaks (going old) old.interpreter before after drawn lines past

-- A machine went on with the steps that its interpreter has left, and, if that goes no further, to
-- where a call is due.
pub record Runs (old new : Machine) (before after : ConsoleView) (given now : Supply)
    (result : Result Stop ConsoleFault) : Type 0 where
  pub names : new.interpreter.world.names ≡ old.interpreter.world.names
  pub left : new.interpreter.left ≤ old.interpreter.left
  pub supply : supplied now ≡ supplied given
  pub bounded : after.bound ≤ before.bound
  pub cause : HasCause before.faults after.faults result
  pub fit : IfOk result (λ stop. IsFit new)
  pub spent : IfOk result (λ stop. stop ≡ s.Spent → 0 < new.interpreter.left
      → (old.interpreter.to_call ≡ true) × CallIsDue (stack_of new.stack))
  pub ends : (lines : List (List ℕ)) → before.left ≡ Some lines
      → StopsOrBreaks result old new before after given.left now.left lines
