-- The laws of programs and whole runs.
use Rattle.std.specs.Prelude.{◌≡◌, ℕ, ◌≤◌, List, codes, Option}
use Rattle.adv_io.specs.Steps.{Step, trace_of}
use Rattle.inform_tree.specs.declared.widths.Width.{Width}
use Rattle.inform_tree.specs.Programs.{DirectiveTree}
use Rattle.inform_names.specs.Meanings.{meanings}
use Rattle.inform_meaning.specs.Worlds.{Config}
use Rattle.inform_meaning.specs.Frames.{Outcome}
use Rattle.inform_meaning.specs.Runs.{CALL_LIMIT, Stop}
use Rattle.inform_meaning.specs.Programs.{program_in, routine_named, body_of, main_scope, run_of}
use Rattle.inform_logic.specs.Stages.{Stage}
use Rattle.inform_logic.specs.Leading.{TheBlock}
use Rattle.inform_logic.specs.Holding.{Holds, Opens, opening_stage, Distinct}
use Rattle.inform_logic.specs.Stopping.{Stops, stop_leaves, Stopped}

-- A program of directives holds them, where no two have one name.
abbrev pub ProgramHolds : Type 0
ProgramHolds = (width : Width) (ds : List DirectiveTree) (notes : List ℕ → ℕ → Option ℕ)
    → Distinct ds → Holds (program_in width ds notes) ds

-- It opens with the values of its globals and the entries of its arrays.
abbrev pub OpeningOpens : Type 0
OpeningOpens = (width : Width) (ds : List DirectiveTree) (lines : List (List ℕ)) (draws : List ℕ)
    → Distinct ds → Opens width (meanings width ds) (opening_stage width ds lines draws) ds

-- Where the body of `Main` stops for this within so many steps, the run with so many steps or more
-- stops for this, and leaves the same stage.
abbrev pub RunStops : Type 0
RunStops = (width : Width) (ds : List DirectiveTree) (notes : List ℕ → ℕ → Option ℕ)
    (lines : List (List ℕ)) (draws : List ℕ) (w : Stage) (stop : Stop) (most : ℕ)
    → Stops (program_in width ds notes) CALL_LIMIT
    (TheBlock (body_of (routine_named width ds (codes "main"))))
    (main_scope (routine_named width ds (codes "main"))) (opening_stage width ds lines draws) stop
    w most
    → ((k : ℕ) → stop_leaves stop k) → (steps : ℕ) → most ≤ steps
    → Stopped (run_of width ds notes steps lines draws) stop w

-- ---- what is noted

-- two runs came to the same outcome and left the same, but for what was noted
pub record SameButNotes (r r' : Outcome × Config) : Type 0 where
  pub past : List Step
  pub same : trace_of past ≡ trace_of r.1.past
  pub is : r' ≡ (r.0, record r.1 { past = past })

-- What a program notes changes nothing else of its runs.
abbrev pub NotesCountForNothing : Type 0
NotesCountForNothing = (width : Width) (ds : List DirectiveTree)
    (notes more : List ℕ → ℕ → Option ℕ) (steps : ℕ) (lines : List (List ℕ)) (draws : List ℕ)
    → SameButNotes (run_of width ds notes steps lines draws)
    (run_of width ds more steps lines draws)
