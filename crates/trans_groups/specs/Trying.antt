-- All routines that try groups: the search, the automatic step, and those of the groups.
use Rattle.std.specs.Prelude.{List, ◌++◌}
use Rattle.inform_tree.specs.Programs.{DirectiveTree}
use Rattle.scott_types.specs.Database.{Database}
use Rattle.trans_groups.specs.Directives.{group_directives}
use Rattle.trans_groups.specs.Automatic.{automatic_directives}
use Rattle.trans_groups.specs.Search.{search_directives}

abbrev pub trying_directives : Database → List DirectiveTree
trying_directives db = search_directives db ++ (automatic_directives db ++ group_directives db)
