-- The routines of lines meet their specifications.
use Rattle.std.specs.Prelude.{◌≡◌, ℕ, ◌<◌, true, length, codes}
use Rattle.inform_tree.specs.declared.widths.Width.{Width}
use Rattle.inform_tree.specs.Formed.{is_well_formed}
use Rattle.inform_meaning.specs.Worlds.{Program}
use Rattle.scott_types.specs.declared.styles.Style.{Style}
use Rattle.scott_types.specs.Database.{Database}
use Rattle.scott_types.specs.Limits.{KeepsLimits}
use Rattle.scott_types.specs.Style.{in_style}
use Rattle.trans_specs.specs.Names.{message_name}
use Rattle.trans_specs.specs.Programs.{Serves, HasRoutine}
use Rattle.trans_specs.specs.DataSpecs.{DataSpecs}
use Rattle.trans_specs.specs.HelperSpecs.{HelperSpecs}
use Rattle.trans_specs.specs.ActionSpecs.{LineSpec}
use Rattle.trans_specs.specs.Meeting.{Translates}
use Rattle.trans_actions.specs.Names.{helper_names}
use Rattle.trans_actions.specs.Directives.{action_directives}

-- a program has the routine of each message
abbrev pub HasMessages : Database → Program → Type 0
HasMessages db p = (m : ℕ) → m < length db.messages → HasRoutine p (message_name m)

-- Where a program has these routines and those of the messages, and the texts and helpers do what
-- they owe, each line meets its specification.
abbrev pub LinesMeetSpecs : Type 0
LinesMeetSpecs = (style : Style) (width : Width) (db : Database) (p : Program) → Translates width db
    → Serves width (action_directives style db) p
    → HelperSpecs (in_style style db) p helper_names
    → DataSpecs (in_style style db) p
    (codes "look") (codes "inventory") (codes "score") (codes "burn")
    → HasMessages db p → LineSpec (in_style style db) p

-- The routines of lines are well formed for a database that keeps its limits.
abbrev pub ActionsFormed : Type 0
ActionsFormed = (style : Style) (db : Database) → KeepsLimits db
    → is_well_formed (action_directives style db) ≡ true
