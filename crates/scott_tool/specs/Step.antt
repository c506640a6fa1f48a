-- `step G`: an Inform program is run on the console, and a line is said at each pause.
use Rattle.std.specs.Prelude.{◌≡◌, ℕ, List, [], ◌∷◌, ◌++◌, map, Option, Some, None, option_map, Result, Ok, Err, if◌then◌else◌}
use Rattle.std.specs.Char.{to_ascii_lowercase}
use Rattle.std.specs.FinMap.{get}
use Rattle.adv_io.specs.declared.events.Event.{Event}
use Rattle.adv_io.specs.Console.{ConsoleView}
use Rattle.adv_io.specs.History.{says, grown, shown}
use Rattle.adv_io.specs.Shelf.{Files}
use Rattle.adv_io.specs.Steps.{trace_of}
use Rattle.inform_names.specs.declared.meanings.Meaning.{Meaning}
use Rattle.inform_names.specs.Acceptance.{is_routine}
use Rattle.inform_names.specs.Meanings.{meanings}
use Rattle.inform_reader.specs.Reading.{IsProgram}
use Rattle.inform_stepper.specs.declared.repeats.Pausing.{Pausing}
use Rattle.inform_stepper.specs.declared.repeats.Pausing.TheVariants.{At, Every}
use Rattle.inform_stepper.specs.Pauses.{Run}
use Rattle.inform_stepper.specs.Repeats.{waited, globals_of}
use Rattle.inform_stepper.specs.Shown.{step_shown, pause_text}
use Rattle.inform_tree.specs.declared.widths.Width.{Width}
use Rattle.inform_tree.specs.Programs.{DirectiveTree}
use Rattle.scott_requests.specs.Request.{StepRequest}
use Rattle.scott_requests.specs.Settings.{Pause, entering, each}
use Rattle.scott_tool.specs.Draws.{DrawsAre}
use Rattle.scott_tool.specs.Refusal.{Unfit, bad_program, no_routine}
use Rattle.scott_tool.specs.Run.{ran, stop_after, stop_status, stop_line}

-- ---- at what it pauses

-- the number of the directive that is the routine with this meaning, if it is one
abbrev pub routine_meant : Option Meaning → Option ℕ
routine_meant None = None
routine_meant (Some m) = if is_routine m.kind then Some m.at else None

-- at what a run of a program pauses, if it has the routine; names are compared in lower case
abbrev pub pausing_in : Width → List DirectiveTree → Pause → Option Pausing
pausing_in width p (entering name) =
    option_map At (routine_meant (meanings width p (map to_ascii_lowercase name)))
pausing_in width p (each number) = Some (Every number)

-- the name of the routine that isn't there
abbrev pub missing_name : Pause → List ℕ
missing_name (entering name) = name
missing_name (each number) = []

abbrev pub without_routine : List ℕ → Pause → Unfit
without_routine file pause =
    record { name = file; flaw = bad_program; words = no_routine ∷ missing_name pause ∷ [] }

abbrev pub pausing_or_unfit : List ℕ → Pause → Option Pausing → Result Pausing Unfit
pausing_or_unfit file pause None = Err (without_routine file pause)
pausing_or_unfit file pause (Some pausing) = Ok pausing

abbrev pub pausing_of_program : Width → List ℕ → List DirectiveTree → Pause → Result Pausing Unfit
pausing_of_program width file p pause = pausing_or_unfit file pause (pausing_in width p pause)

-- ---- what is shown

-- where the run stands after so many steps
abbrev pub run_by_steps : Width → List DirectiveTree → List ℕ → List (List ℕ) → Run
run_by_steps width p draws lines steps = ran width p steps lines draws

-- the run, and after each step at which it pauses how many were used, and the globals
abbrev pub run_with_lines : Width → List DirectiveTree → ℕ → Pausing → List ℕ → List (List ℕ)
    → List Event
run_with_lines width p steps pausing draws lines =
    let run = run_by_steps width p draws lines in
    step_shown (pause_text (waited pausing) (globals_of p) 0 run) run steps

-- the same without these lines
abbrev pub run_without_lines : Width → List DirectiveTree → ℕ → List ℕ → List (List ℕ) → List Event
run_without_lines width p steps draws lines =
    step_shown (λ n. []) (run_by_steps width p draws lines) steps

-- what is seen of it: that, and then the line of the run's end
abbrev pub step_events : Width → List DirectiveTree → ℕ → Pausing → List ℕ → List (List ℕ)
    → List Event
step_events width p steps pausing draws lines =
    run_with_lines width p steps pausing draws lines
    ++ says (stop_line p (stop_after width p steps lines draws))

-- What status 0, 8 or 10 means: the file is a text of a program that is accepted and has the
-- routine; the console saw what its run says and takes, with these lines and its draws, and a line
-- at each pause; without those lines it is what a run shows.
pub record Stepped (files : Files) (lines : List (List ℕ)) (s : StepRequest)
    (old new : ConsoleView) (status : ℕ) : Type 0 where
  pub bytes : List ℕ
  pub program : List DirectiveTree
  pub pausing : Pausing
  pub draws : List ℕ
  pub there : get files s.run.program ≡ Some bytes
  pub text : IsProgram s.run.width bytes program
  pub pauses : pausing_in s.run.width program s.pause ≡ Some pausing
  pub draws_are : DrawsAre files s.run.source draws
  pub ends : status ≡ stop_status (stop_after s.run.width program s.run.steps lines draws)
  pub seen : new.history ≡ grown old.history
      (step_events s.run.width program s.run.steps pausing draws lines)
  pub runs : run_without_lines s.run.width program s.run.steps draws lines
      ≡ shown (trace_of (ran s.run.width program s.run.steps lines draws).1.past)
