-- All directives of the tables of a translated game.
use Rattle.std.specs.Prelude.{List, ◌++◌}
use Rattle.inform_tree.specs.Programs.{DirectiveTree}
use Rattle.scott_types.specs.declared.states.State.{State}
use Rattle.scott_types.specs.declared.styles.Style.{Style}
use Rattle.scott_types.specs.Database.{Database}
use Rattle.trans_specs.specs.Directives.{data_directives}
use Rattle.trans_data.specs.Texts.{text_directives}

-- the globals and arrays, and then the routines
abbrev pub table_directives : Style → Database → State → List DirectiveTree
table_directives style db s = data_directives db s ++ text_directives style db
