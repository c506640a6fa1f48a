-- The routines of commands meet their specifications.
use Rattle.std.specs.Prelude.{◌≡◌, true, codes}
use Rattle.inform_tree.specs.declared.widths.Width.{Width}
use Rattle.inform_tree.specs.Formed.{is_well_formed}
use Rattle.inform_meaning.specs.Worlds.{Program}
use Rattle.scott_types.specs.declared.styles.Style.{Style}
use Rattle.scott_types.specs.Database.{Database}
use Rattle.scott_types.specs.Limits.{KeepsLimits}
use Rattle.scott_types.specs.Style.{in_style}
use Rattle.trans_specs.specs.Programs.{Serves}
use Rattle.trans_specs.specs.HelperSpecs.{HelperSpecs}
use Rattle.trans_specs.specs.CommandSpecs.{SearchSpec, CommandSpec}
use Rattle.trans_specs.specs.Meeting.{Translates}
use Rattle.trans_commands.specs.Names.{helper_names}
use Rattle.trans_commands.specs.Directives.{command_directives}

-- Where a program has the routines of commands, and its helpers and its search meet their
-- specifications, a command meets its specification.
abbrev pub CommandsMeetSpecs : Type 0
CommandsMeetSpecs = (style : Style) (width : Width) (db : Database) (p : Program)
    → Translates width db → Serves width (command_directives style db) p
    → HelperSpecs (in_style style db) p helper_names
    → SearchSpec (in_style style db) p (codes "search")
    → CommandSpec (in_style style db) p (codes "command")

-- The routines of commands are well formed for a database that keeps its limits.
abbrev pub CommandsFormed : Type 0
CommandsFormed = (style : Style) (db : Database) → KeepsLimits db
    → is_well_formed (command_directives style db) ≡ true
