-- An interpreter, as the definitions see it.
use Rattle.std.specs.Prelude.{ℕ, ◌≡◌, ◌+◌, ◌*◌, ◌≤◌, List, [], reverse, Option, Some, None, Result, Ok, Err}
use Rattle.inform_meaning.specs.Worlds.{Program}
use Rattle.inform_meaning.specs.Frames as f
use Rattle.inform_meaning.specs.Meaning.{Calls}
use Rattle.inform_meaning.specs.Runs.{CALL_LIMIT, call_at}
use Rattle.inform_moves.specs.Heights.{ROUTINE_FRAMES}
use Rattle.inform_worlds.specs.Views.{world_of, program_seen}
use Rattle.inform_frames.specs.declared.signals.Signal.{Signal}
use Rattle.inform_frames.specs.Frames.{halt_of, signal_of}
use Rattle.inform_frames.specs.Stacks.{stack_of}
use Rattle.inform_frames.specs.declared.stacks.TheConstants.{ROOM}
use Rattle.inform_interpreter.specs.Leading.{Place}
use Rattle.inform_interpreter.specs.declared.exits.Lack.{Lack}
use Rattle.inform_interpreter.specs.declared.exits.Lack.TheVariants as l
use Rattle.inform_interpreter.specs.declared.exits.Stopped.{Stopped}
use Rattle.inform_interpreter.specs.declared.exits.Stopped.TheVariants as s
use Rattle.inform_interpreter.specs.declared.exits.Exit.{Exit}
use Rattle.inform_interpreter.specs.declared.exits.Exit.TheVariants as x
use Rattle.inform_interpreter.specs.declared.interpreters.Interpreter.{Interpreter}

abbrev pub program_of : Interpreter → Program
program_of i = program_seen i.world

-- what calls mean in it, where so many more may be open
abbrev pub calls_of : Interpreter → Calls
calls_of i = call_at (program_of i) i.room

-- what waits, the innermost first
abbrev pub waiting_in : Interpreter → List f.Frame
waiting_in i = reverse (stack_of i.waiting)

abbrev pub place_of : Interpreter → List (List ℕ) → List ℕ → Place
place_of i lines draws = record { world = world_of i.world; lines = lines; draws = draws }

-- nothing waits, and there is room for as many frames as may wait where a part with so many of its
-- own stops
pub record IsReady (i : Interpreter) (frames : ℕ) : Type 0 where
  pub idle : stack_of i.waiting ≡ []
  pub room : frames + ROUTINE_FRAMES * i.room ≤ ROOM
  pub calls : i.room ≤ CALL_LIMIT

-- ---- outcomes

abbrev pub lack_of : Lack → f.Lack
lack_of l.Line = f.NeedsLine
lack_of l.Draw = f.NeedsDraw
lack_of l.Steps = f.Spent

-- why an interpreter stopped, where the console didn't fail
abbrev pub stop_in : List f.Frame → Stopped → Option f.Outcome
stop_in frames (s.Over halt) = Some (f.Halts (halt_of halt))
stop_in frames (s.Lacks lack) = Some (f.Waits (lack_of lack) frames)
stop_in frames (s.Fails fault) = None

-- the outcome of a part that was left
abbrev pub left_by : Interpreter → Exit → Option f.Outcome
left_by i (x.Returns a) = Some (f.Returns a)
left_by i x.Breaks = Some f.Breaks
left_by i x.Continues = Some f.Continues
left_by i x.Stops = stop_in (waiting_in i) i.stopped

-- the outcome of a part, where what it gives is one by `view`
abbrev pub ended : {T : Type 0} → (T → f.Outcome) → Interpreter → Result T Exit → Option f.Outcome
ended view i (Ok a) = Some (view a)
ended view i (Err exit) = left_by i exit

-- of a part that gives nothing
abbrev pub normal : {T : Type 0} → T → f.Outcome
normal a = f.Normal

-- what a frame hands on; where it hands nothing on, why the interpreter stopped
abbrev pub handed_on : Interpreter → Option Signal → Option f.Outcome
handed_on i (Some signal) = Some (signal_of signal)
handed_on i None = stop_in (waiting_in i) i.stopped
