-- What an interpreter does with a part of a program.
use Rattle.std.specs.Prelude.{ℕ, ℤ, pos, ◌≡◌, ◌+◌, ◌*◌, ◌<◌, ◌≤◌, Bool, true, false, List, [], ◌∷◌, ◌++◌, length, Option, Some, None, IfSome, Result, Ok, Err, OnOk, OnErr, IfErr, ⊤}
use Rattle.adv_draws.specs.Supply.{Supply, supplied}
use Rattle.adv_io.specs.Steps.{Step, shown_of}
use Rattle.adv_io.specs.Console.{ConsoleView, Speaks}
use Rattle.adv_io.specs.declared.faults.ConsoleFault.{ConsoleFault}
use Rattle.adv_io.specs.Faults.{HasCause}
use Rattle.adv_io.specs.History.{grown, says, GrewByPrefix}
use Rattle.inform_meaning.specs.Worlds.{Program, Scope}
use Rattle.inform_meaning.specs.Frames as f
use Rattle.inform_meaning.specs.Frames.{Frame, Outcome, Meaning, gives, bind}
use Rattle.inform_meaning.specs.Meaning.{Calls}
use Rattle.inform_meaning.specs.Runs.{start, use_value, use_truth, hand}
use Rattle.inform_moves.specs.Heights.{ROUTINE_FRAMES, standing, Fits, calls_open}
use Rattle.inform_moves.specs.Readiness.{IsReady as IsReadyFor}
use Rattle.inform_steps.specs.Standing.{CallIsDue}
use Rattle.inform_worlds.specs.Views.{world_of}
use Rattle.inform_frames.specs.Stacks.{stack_of}
use Rattle.inform_interpreter.specs.Leading.{config_at, MayBeLeft, Anything, Leads}
use Rattle.inform_interpreter.specs.Interpreters.{program_of, calls_of, waiting_in, place_of, left_by}
use Rattle.inform_interpreter.specs.declared.exits.Exit.{Exit}
use Rattle.inform_interpreter.specs.declared.exits.Exit.TheVariants as x
use Rattle.inform_interpreter.specs.declared.exits.Lack.{Lack}
use Rattle.inform_interpreter.specs.declared.exits.Stopped.{Stopped}
use Rattle.inform_interpreter.specs.declared.exits.Stopped.TheVariants as s
use Rattle.inform_interpreter.specs.declared.interpreters.Interpreter.{Interpreter}

-- what a part of a program means, by the program and its calls
abbrev pub Part : Type 0
Part = Program → Calls → Meaning

-- what begins, what a wanted value and a truth value are used for, and what a frame does with the
-- outcome of its part
abbrev pub begun : f.Begin → Part
begun b p call = start p call b

abbrev pub wanted : f.Want → ℤ → Part
wanted w a p call = use_value p call w a

abbrev pub decided : f.Decide → Bool → Part
decided d b p call = use_truth p call d b

abbrev pub handed : Frame → Outcome → Part
handed x e p call = hand p call x e

-- a part, and then what a frame does with its outcome
abbrev pub then_handed : Part → Frame → Part
then_handed part x p call = bind (part p call) (hand p call x)

-- what it means in an interpreter
abbrev pub meant : Part → Interpreter → Meaning
meant part i = part (program_of i) (calls_of i)

-- On a console of which these lines were left, a part was done up to where another one is left: the
-- console shows what was done.
pub record Reaches (may_be_left : ℕ → Type 0) (part rest : Meaning) (old new : Interpreter)
    (before after : ConsoleView) (drawn draws : List ℕ) (lines : List (List ℕ)) : Type 0 where
  pub used : ℕ
  pub done : List Step
  pub left : List (List ℕ)
  pub steps : new.left + used ≡ old.left
  pub grew : after.history ≡ grown before.history (shown_of done)
  pub lines_left : after.left ≡ Some left
  pub leads : Leads old.to_call may_be_left part rest (place_of old lines drawn)
      (place_of new left draws) used done

-- the console failed: what it shows is a prefix of what the part does with the steps that are left
pub record Breaks (part : Meaning) (old : Interpreter) (before after : ConsoleView)
    (drawn : List ℕ) (lines : List (List ℕ)) (past : List Step) : Type 0 where
  pub events : List Step
  pub same : (part (config_at (place_of old lines drawn) old.left past)).1.past ≡ past ++ events
  pub shows : GrewByPrefix before.history after.history (shown_of events)

-- the part ended so, or the console failed
abbrev pub Ends : Option Outcome → Meaning → (old new : Interpreter) → (before after : ConsoleView)
    → (drawn draws : List ℕ) → (lines : List (List ℕ)) → Type 0
Ends None part old new before after drawn draws lines =
    (past : List Step) → Breaks part old before after drawn lines past
Ends (Some e) part old new before after drawn draws lines =
    Reaches (MayBeLeft e) part (gives e) old new before after drawn draws lines

-- nothing waits, unless the part does
abbrev pub WaitsAlone : Option Outcome → List Frame → Type 0
WaitsAlone None frames = ⊤
WaitsAlone (Some (f.Waits lack fs)) frames = ⊤
WaitsAlone (Some e) frames = frames ≡ []

-- it waits for a step where none is left, or where a call is due and it goes no further
abbrev pub IsSpentRight : Option Outcome → Interpreter → Type 0
IsSpentRight (Some (f.Waits f.Spent fs)) i = 0 < i.left → (i.to_call ≡ true) × CallIsDue fs
IsSpentRight e i = ⊤

-- What waits, where so many frames of its own may stand: on top of others each routine keeps within
-- its frames, and where a line is due its buffer has room.
pub record WaitsFit (frames : ℕ) (i : Interpreter) : Type 0 where
  pub within : (rest : List Frame) → Fits rest → frames + standing rest ≤ ROUTINE_FRAMES
      → Fits (waiting_in i ++ rest)
  pub ready : IsReadyFor (world_of i.world) (waiting_in i)

abbrev pub answer_of : Option Outcome → Result (Unit {0}) (Unit {0})
answer_of None = Err tt
answer_of (Some e) = Ok tt

-- what stays as it is while an interpreter goes on
pub record Stays (old new : Interpreter) (before after : ConsoleView) (given now : Supply)
    (faults : Result (Unit {0}) (Unit {0})) : Type 0 where
  pub names : new.world.names ≡ old.world.names
  pub room : new.room ≡ old.room
  pub to_call : new.to_call ≡ old.to_call
  pub left : new.left ≤ old.left
  pub supply : supplied now ≡ supplied given
  pub bounded : after.bound ≤ before.bound
  pub cause : HasCause before.faults after.faults faults

-- An interpreter did what a part means, with this outcome, or the console failed in it. At most so
-- many frames of its own wait, and those of the calls inside it.
pub record Does (frames : ℕ) (part : Part) (old new : Interpreter) (before after : ConsoleView)
    (given now : Supply) (e : Option Outcome) : Type 0 where
  pub stays : Stays old new before after given now (answer_of e)
  pub alone : WaitsAlone e (stack_of new.waiting)
  pub few : length (stack_of new.waiting) ≤ frames + ROUTINE_FRAMES * old.room
  pub calls : calls_open (stack_of new.waiting) ≤ old.room
  pub fits : IfSome e (λ e. WaitsFit frames new)
  pub spent : IsSpentRight e new
  pub ends : (lines : List (List ℕ)) → before.left ≡ Some lines
      → Ends e (meant part old) old new before after given.left now.left lines

-- it did a part up to where another one is left
pub record Comes (part rest : Part) (old new : Interpreter) (before after : ConsoleView)
    (given now : Supply) : Type 0 where
  pub stays : Stays old new before after given now (Ok tt)
  pub idle : stack_of new.waiting ≡ []
  pub reaches : (lines : List (List ℕ)) → before.left ≡ Some lines
      → Reaches Anything (meant part old) (meant rest old) old new before after given.left now.left
      lines

-- it did a part up to where another one is left, or the part was left
abbrev pub GoesOn : {T : Type 0} (frames : ℕ) (part rest : Part) (old new : Interpreter)
    (before after : ConsoleView) (given now : Supply) (result : Result T Exit) → Type 0
GoesOn frames part rest old new before after given now (Ok x) =
    Comes part rest old new before after given now
GoesOn frames part rest old new before after given now (Err exit) =
    Does frames part old new before after given now (left_by new exit)

-- the same, where the part may end
abbrev pub GoesOnIf : (frames : ℕ) (part rest : Part) (old new : Interpreter)
    (before after : ConsoleView) (given now : Supply) (result : Result Bool Exit) → Type 0
GoesOnIf frames part rest old new before after given now (Ok true) =
    Comes part rest old new before after given now
GoesOnIf frames part rest old new before after given now (Ok false) =
    Does frames part old new before after given now (Some f.Normal)
GoesOnIf frames part rest old new before after given now (Err exit) =
    Does frames part old new before after given now (left_by new exit)

-- ---- what waits

-- a frame waits too, if the interpreter stopped for what it lacks
abbrev pub joined : Exit → Stopped → Frame → List Frame → List Frame
joined x.Stops (s.Lacks lack) frame frames = frame ∷ frames
joined exit stopped frame frames = frames

-- a frame waits too, where the part was left so that it waits
pub record Joins (exit : Exit) (frame : Frame) (old new : Interpreter) : Type 0 where
  pub world : new.world ≡ old.world
  pub stopped : new.stopped ≡ old.stopped
  pub left : new.left ≡ old.left
  pub room : new.room ≡ old.room
  pub to_call : new.to_call ≡ old.to_call
  pub waiting : stack_of new.waiting ≡ joined exit old.stopped frame (stack_of old.waiting)

-- it stopped for what it lacks, and this frame waits
pub record Waits (lack : Lack) (frame : Frame) (old new : Interpreter) : Type 0 where
  pub world : new.world ≡ old.world
  pub stopped : new.stopped ≡ s.Lacks lack
  pub left : new.left ≡ old.left
  pub room : new.room ≡ old.room
  pub to_call : new.to_call ≡ old.to_call
  pub waiting : stack_of new.waiting ≡ frame ∷ []

-- ---- what is said

-- bytes were said, or the console failed
pub record Says {T : Type 0} (bytes : List ℕ) (old new : Interpreter) (before after : ConsoleView)
    (result : Result T Exit) : Type 0 where
  pub speaks : Speaks before after result (says bytes)
  pub same : OnOk result (new ≡ old)
  pub exit : IfErr result (λ exit. exit ≡ x.Stops)
  pub fails : OnErr result ((fault : ConsoleFault)
      × (new ≡ record old { stopped = s.Fails fault }))

-- ---- the end of a routine

-- its value, as an interpreter has it
abbrev pub returned_by : {T : Type 0} → Result T Exit → Result ℤ Exit
returned_by (Ok x) = Ok (pos 1)
returned_by (Err (x.Returns a)) = Ok a
returned_by (Err exit) = Err exit

-- the caller's scope came back, if the routine is over; where it waits, the caller does
abbrev pub WorldBack : Scope → Option Outcome → (old new : Interpreter) → Type 0
WorldBack caller None old new = new ≡ old
WorldBack caller (Some (f.Waits lack fs)) old new =
    (stack_of new.waiting ≡ f.Calling caller ∷ stack_of old.waiting) × (new.world ≡ old.world)
WorldBack caller (Some e) old new = (stack_of new.waiting ≡ stack_of old.waiting)
    × (world_of new.world ≡ record (world_of old.world) { scope = caller })

pub record ComesBack (caller : Scope) (e : Option Outcome) (old new : Interpreter) : Type 0 where
  pub names : new.world.names ≡ old.world.names
  pub stopped : new.stopped ≡ old.stopped
  pub left : new.left ≡ old.left
  pub room : new.room ≡ old.room
  pub to_call : new.to_call ≡ old.to_call
  pub back : WorldBack caller e old new
