-- All routines of the lines of a game: those that lines call, and the lines.
use Rattle.std.specs.Prelude.{ℕ, ◌+◌, List, [], ◌∷◌, ◌++◌, if◌then◌else◌}
use Rattle.inform_tree.specs.Statements.{statements}
use Rattle.inform_tree.specs.Programs.{RoutineTree, DirectiveTree, Routine}
use Rattle.scott_types.specs.declared.parts.Action.{Action}
use Rattle.scott_types.specs.declared.styles.Style.{Style}
use Rattle.scott_types.specs.Database.{Database}
use Rattle.scott_types.specs.Action.{is_zero_action}
use Rattle.trans_specs.specs.Names.{line_name}
use Rattle.trans_specs.specs.Lines.{line_body}
use Rattle.trans_actions.specs.Helpers.{helper_directives}

-- the routine of a line by its number
abbrev pub routine_of_line : Database → ℕ → Action → RoutineTree
routine_of_line db k a =
    record { name = line_name k; locals = []; body = statements (line_body db a) }

-- of each line from number k on, but those that are all zeros
abbrev pub lines_from : Database → ℕ → List Action → List DirectiveTree
lines_from db k [] = []
lines_from db k (a ∷ actions) =
    if is_zero_action a then lines_from db (k + 1) actions
    else Routine (routine_of_line db k a) ∷ lines_from db (k + 1) actions

abbrev pub line_directives : Database → List DirectiveTree
line_directives db = lines_from db 0 db.actions

abbrev pub action_directives : Style → Database → List DirectiveTree
action_directives style db = helper_directives style db ++ line_directives db
