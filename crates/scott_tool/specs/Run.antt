-- `run G`: an Inform program is run on the console.
use Rattle.std.specs.Prelude.{◌≡◌, ℕ, List, [], ◌∷◌, ◌++◌, Some, Result, Ok, Err, slice_get, option_map, unwrap_or, codes}
use Rattle.std.specs.FinMap.{get}
use Rattle.adv_io.specs.declared.events.Event.{Event}
use Rattle.adv_io.specs.Console.{ConsoleView}
use Rattle.adv_io.specs.History.{says, grown, shown}
use Rattle.adv_io.specs.Shelf.{Files}
use Rattle.adv_io.specs.Steps.{trace_of}
use Rattle.inform_tree.specs.declared.widths.Width.{Width}
use Rattle.inform_tree.specs.Programs as d
use Rattle.inform_tree.specs.Programs.{DirectiveTree}
use Rattle.inform_meaning.specs.Frames as f
use Rattle.inform_meaning.specs.Programs.{run_of, no_notes}
use Rattle.inform_meaning.specs.Runs.{Stop, Halted, Lacking, stop_of}
use Rattle.inform_meaning.specs.declared.traps.Trap.{Trap}
use Rattle.inform_meaning.specs.TrapTexts.{trap_word}
use Rattle.inform_meaning.specs.Worlds as w
use Rattle.inform_reader.specs.Reading.{Fault, IsProgram, program_in}
use Rattle.inform_reader.specs.Views.{fault_answer}
use Rattle.scott_requests.specs.Settings.{DrawSource}
use Rattle.scott_tool.specs.Refusal.{Unfit, unfit_by, whole}
use Rattle.scott_tool.specs.Draws.{DrawsAre}
use Rattle.scott_tool.specs.declared.refusals.ContentFault.TheVariants.{NoProgram}

-- the program that a file's bytes read as, where words have this width, or what is wrong with it
-- first
abbrev pub program_or_unfit : List ℕ → Result (List DirectiveTree) Fault
    → Result (List DirectiveTree) Unfit
program_or_unfit name (Ok p) = Ok p
program_or_unfit name (Err fault) =
    Err (unfit_by name (NoProgram (fault_answer fault)))

abbrev pub program_of_file : Width → List ℕ → List ℕ → Result (List DirectiveTree) Unfit
program_of_file width name bytes = program_or_unfit name (program_in width bytes)

-- ---- how a run ends

-- a run of a program for so many steps at most
abbrev pub ran : Width → List DirectiveTree → ℕ → List (List ℕ) → List ℕ → f.Outcome × w.Config
ran width p steps lines draws = run_of width p no_notes steps lines draws

-- why it stopped
abbrev pub stop_after : Width → List DirectiveTree → ℕ → List (List ℕ) → List ℕ → Stop
stop_after width p steps lines draws = stop_of (ran width p steps lines draws).0

-- 8: it was about to do what it can't do. 10: a further step was due. 0: it quit, or a line or a
-- draw was wanted.
abbrev pub stop_status : Stop → ℕ
stop_status (Halted f.Quits) = 0
stop_status (Halted (f.Trapped trap at)) = 8
stop_status (Lacking f.NeedsLine) = 0
stop_status (Lacking f.NeedsDraw) = 0
stop_status (Lacking f.Spent) = 10

unfoldable pub trap_opening : List ℕ
trap_opening = codes "[Trap: "

unfoldable pub within : List ℕ
within = codes " in "

unfoldable pub trap_end : List ℕ
trap_end = codes "]\n"

unfoldable pub steps_spent : List ℕ
steps_spent = codes "[Steps spent.]\n"

-- the name of the routine that is this directive
abbrev pub name_in : DirectiveTree → List ℕ
name_in (d.Routine r) = r.name
name_in other = []

abbrev pub routine_name : List DirectiveTree → ℕ → List ℕ
routine_name p at = unwrap_or (option_map name_in (slice_get p at)) []

abbrev pub trap_line : List DirectiveTree → Trap → ℕ → List ℕ
trap_line p trap at =
    whole (trap_opening ∷ trap_word trap ∷ within ∷ routine_name p at ∷ trap_end ∷ [])

-- the line that is said after a run
abbrev pub stop_line : List DirectiveTree → Stop → List ℕ
stop_line p (Halted f.Quits) = []
stop_line p (Halted (f.Trapped trap at)) = trap_line p trap at
stop_line p (Lacking f.NeedsLine) = []
stop_line p (Lacking f.NeedsDraw) = []
stop_line p (Lacking f.Spent) = steps_spent

-- what is seen of a run: what it says and takes, and then its line
abbrev pub run_events : List DirectiveTree → f.Outcome × w.Config → List Event
run_events p r = shown (trace_of r.1.past) ++ says (stop_line p (stop_of r.0))

-- What status 0, 8 or 10 means: the file is a text of a program that is accepted, and the console
-- saw what its run says and takes, with these lines and its draws; and the status and the last line
-- are those of its end.
pub record Ran (files : Files) (lines : List (List ℕ)) (name : List ℕ) (source : DrawSource)
    (steps : ℕ) (width : Width) (old new : ConsoleView) (status : ℕ) : Type 0 where
  pub bytes : List ℕ
  pub program : List DirectiveTree
  pub draws : List ℕ
  pub there : get files name ≡ Some bytes
  pub text : IsProgram width bytes program
  pub draws_are : DrawsAre files source draws
  pub ends : status ≡ stop_status (stop_after width program steps lines draws)
  pub seen : new.history
      ≡ grown old.history (run_events program (ran width program steps lines draws))
