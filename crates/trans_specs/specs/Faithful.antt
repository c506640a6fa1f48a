-- What it is for a program to be faithful to a database.
use Rattle.std.specs.Prelude.{◌≡◌, ℕ, ◌≤◌, List, length, Option, Some, None}
use Rattle.std.specs.List.{AllByRecursion, filter_map}
use Rattle.adv_io.specs.Steps.{Step, Traced, noted}
use Rattle.adv_io.specs.TypedLine.{IsTyped}
use Rattle.adv_draws.specs.Run.{AllDraws}
use Rattle.inform_tree.specs.declared.widths.Width.{Width}
use Rattle.inform_tree.specs.Programs.{DirectiveTree}
use Rattle.inform_names.specs.Acceptance.{name_fault}
use Rattle.inform_meaning.specs.Programs.{no_notes, run_of}
use Rattle.inform_entered.specs.Entered.{entered}
use Rattle.inform_entered.specs.Laws.{number_at}
use Rattle.scott_types.specs.declared.states.State.{State}
use Rattle.scott_types.specs.declared.styles.Style.{Style}
use Rattle.scott_types.specs.declared.endings.Position.{Position}
use Rattle.scott_types.specs.declared.endings.Position.TheVariants.{Fresh, Line}
use Rattle.scott_types.specs.Database.{Database}
use Rattle.scott_types.specs.State.{start}
use Rattle.scott_types.specs.Style.{in_style}
use Rattle.scott_rules.specs.Play.{PlayEnd, go}
use Rattle.trans_specs.specs.Names.{line_number}
use Rattle.trans_specs.specs.Steps.{enough}
use Rattle.trans_specs.specs.Same.{Same}
use Rattle.trans_specs.specs.Shaped.{Shaped}

-- ---- where a game opens

-- at the beginning, or after a prompt in a state that is handed in
abbrev pub opening_state : Database → Option State → State
opening_state db None = start db
opening_state db (Some s) = s

abbrev pub opening_position : Option State → Position
opening_position None = Fresh
opening_position (Some s) = Line

-- ---- the lines that were tried, and those whose routines were entered

abbrev pub tried : Traced Step PlayEnd → List ℕ
tried play = noted play.events

-- the numbers of the routines of lines that a run enters, in order
abbrev pub line_calls : Width → List DirectiveTree → ℕ → List (List ℕ) → List ℕ → List ℕ
line_calls width ds steps lines draws =
    filter_map (number_at line_number ds) (entered width ds steps lines draws)

-- ---- what is faithful

-- a play and a run on these lines and draws are the same, and try the same lines
pub record PlaysAlike (width : Width) (ds : List DirectiveTree) (steps : ℕ)
    (lines : List (List ℕ)) (draws : List ℕ) (play : Traced Step PlayEnd) : Type 0 where
  pub same : Same play (run_of width ds no_notes steps lines draws)
  pub same_lines : tried play ≡ line_calls width ds steps lines draws

abbrev pub AlwaysAlike : Style → Width → Database → Option State → List DirectiveTree → Type 0
AlwaysAlike style width db from ds = (lines : List (List ℕ)) (draws : List ℕ) (steps : ℕ)
    → AllByRecursion IsTyped lines → AllDraws draws → enough db (length lines) ≤ steps
    → PlaysAlike width ds steps lines draws
    (go (in_style style db) (opening_position from) (opening_state db from) lines draws)

-- A program is faithful to a database in a style, at a width, from where it opens: it is accepted
-- and shaped so, and on all typed lines and all draws, with steps that are enough, its run is the
-- play.
pub record FaithfulProgram (style : Style) (width : Width) (db : Database) (from : Option State)
    (ds : List DirectiveTree) : Type 0 where
  pub accepted : name_fault width ds ≡ None
  pub shaped : Shaped db (opening_state db from) ds
  pub alike : AlwaysAlike style width db from ds
