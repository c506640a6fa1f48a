-- From the rounds of a translated game to its whole run.
use Rattle.std.specs.Prelude.{◌≡◌, ℕ, ◌≤◌, List, ◌++◌, length, Option}
use Rattle.std.specs.List.{AllByRecursion}
use Rattle.adv_io.specs.Steps.{Step, Traced, noted}
use Rattle.adv_io.specs.TypedLine.{IsTyped}
use Rattle.adv_draws.specs.Run.{AllDraws}
use Rattle.inform_tree.specs.declared.widths.Width.{Width}
use Rattle.inform_tree.specs.Programs.{DirectiveTree}
use Rattle.inform_meaning.specs.Programs.{program_in, run_of}
use Rattle.inform_logic.specs.Holding.{Distinct}
use Rattle.scott_types.specs.declared.states.State.{State}
use Rattle.scott_types.specs.declared.styles.Style.{Style}
use Rattle.scott_types.specs.Database.{Database}
use Rattle.scott_types.specs.State.{Fits}
use Rattle.scott_types.specs.Style.{in_style}
use Rattle.scott_rules.specs.Play.{PlayEnd, go}
use Rattle.trans_specs.specs.Steps.{enough}
use Rattle.trans_specs.specs.Names.{line_notes}
use Rattle.trans_specs.specs.Directives.{data_directives}
use Rattle.trans_specs.specs.TurnSpecs.{MainSpec}
use Rattle.trans_specs.specs.Meeting.{Translates}
use Rattle.trans_specs.specs.Same.{Same}
use Rattle.trans_specs.specs.Faithful.{opening_state, opening_position, tried}

-- a play, and the run that notes its lines, are the same, and what was tried is what is noted
pub record NotedAlike (width : Width) (ds : List DirectiveTree) (steps : ℕ)
    (lines : List (List ℕ)) (draws : List ℕ) (play : Traced Step PlayEnd) : Type 0 where
  pub same : Same play (run_of width ds line_notes steps lines draws)
  pub same_lines : tried play ≡ noted (run_of width ds line_notes steps lines draws).1.past

-- a translated game: its tables, and other directives
abbrev pub game_directives : Database → Option State → List DirectiveTree → List DirectiveTree
game_directives db from others = data_directives db (opening_state db from) ++ others

-- Where `main` meets its specification, the run that notes its lines is the play, on all typed
-- lines and all draws, with steps that are enough.
abbrev pub MainIsEnough : Type 0
MainIsEnough = (style : Style) (width : Width) (db : Database) (from : Option State)
    (others : List DirectiveTree) → Translates width db → Fits db (opening_state db from)
    → Distinct (game_directives db from others)
    → MainSpec (in_style style db) (program_in width (game_directives db from others) line_notes)
    (opening_position from)
    → (lines : List (List ℕ)) (draws : List ℕ) (steps : ℕ) → AllByRecursion IsTyped lines
    → AllDraws draws → enough db (length lines) ≤ steps
    → NotedAlike width (game_directives db from others) steps lines draws
    (go (in_style style db) (opening_position from) (opening_state db from) lines draws)
