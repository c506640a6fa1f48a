-- The routines of commands, as they stand in a program.
use Rattle.std.specs.Prelude.{List, [], ◌∷◌, map, length}
use Rattle.inform_tree.specs.Programs.{DirectiveTree}
use Rattle.inform_codes.specs.Routines.{rows_directives}
use Rattle.scott_types.specs.declared.styles.Style.{Style}
use Rattle.scott_types.specs.Database.{Database}
use Rattle.trans_commands.specs.declared.emitting.TheConstants.{ROUTINES}
use Rattle.trans_commands.specs.Names.{command_names}

-- how many items there are is handed in
abbrev pub command_directives : Style → Database → List DirectiveTree
command_directives style db = rows_directives (command_names style) (length db.items ∷ [])
    (map (λ row. (row.0, row.1.now, row.2.now)) ROUTINES)
