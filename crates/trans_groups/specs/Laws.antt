-- The routines of groups, the automatic step and the search meet their specifications.
use Rattle.std.specs.Prelude.{◌≡◌, true, codes}
use Rattle.std.specs.List.{AllByRecursion}
use Rattle.inform_tree.specs.declared.widths.Width.{Width}
use Rattle.inform_tree.specs.Formed.{is_well_formed}
use Rattle.inform_meaning.specs.Worlds.{Program}
use Rattle.scott_types.specs.declared.styles.Style.{Style}
use Rattle.scott_types.specs.Database.{Database}
use Rattle.scott_types.specs.Limits.{KeepsLimits}
use Rattle.scott_types.specs.Style.{Game, in_style}
use Rattle.scott_rules.specs.Groups.{groups}
use Rattle.trans_specs.specs.Programs.{Serves}
use Rattle.trans_specs.specs.ActionSpecs.{LineSpec}
use Rattle.trans_specs.specs.CommandSpecs.{SearchSpec}
use Rattle.trans_specs.specs.AutomaticSpecs.{AutomaticSpec}
use Rattle.trans_specs.specs.Meeting.{Translates}
use Rattle.trans_groups.specs.Directives.{group_directives}
use Rattle.trans_groups.specs.Automatic.{automatic_directives}
use Rattle.trans_groups.specs.Search.{search_directives}
use Rattle.trans_groups.specs.Trying.{trying_directives}
use Rattle.trans_groups.specs.GroupSpecs.{GroupSpec}

-- Where a program has the routines of groups, and each line meets its specification, so does each
-- group.
abbrev pub GroupsMeetSpecs : Type 0
GroupsMeetSpecs = (style : Style) (width : Width) (db : Database) (p : Program)
    → Translates width db → Serves width (group_directives db) p → LineSpec (in_style style db) p
    → AllByRecursion (GroupSpec (in_style style db) p) (groups db)

-- Where a program has the automatic step, and each group meets its specification, so does the step.
abbrev pub AutomaticMeetsSpec : Type 0
AutomaticMeetsSpec = (style : Style) (width : Width) (db : Database) (p : Program)
    → Serves width (automatic_directives db) p
    → AllByRecursion (GroupSpec (in_style style db) p) (groups db)
    → AutomaticSpec (in_style style db) p (codes "automatic")

-- Where a program has the search, and each group meets its specification, so does the search.
abbrev pub SearchMeetsSpec : Type 0
SearchMeetsSpec = (style : Style) (width : Width) (db : Database) (p : Program)
    → Translates width db → Serves width (search_directives db) p
    → AllByRecursion (GroupSpec (in_style style db) p) (groups db)
    → SearchSpec (in_style style db) p (codes "search")

-- the specifications of all of them
pub record TryingRows (game : Game) (p : Program) : Type 0 where
  pub each_group : AllByRecursion (GroupSpec game p) (groups game.db)
  pub automatic : AutomaticSpec game p (codes "automatic")
  pub search : SearchSpec game p (codes "search")

-- Where a program has all of these routines, and each line meets its specification, so do they.
abbrev pub TryingMeetsSpecs : Type 0
TryingMeetsSpecs = (style : Style) (width : Width) (db : Database) (p : Program)
    → Translates width db → Serves width (trying_directives db) p → LineSpec (in_style style db) p
    → TryingRows (in_style style db) p

-- All of these routines are well formed.
abbrev pub TryingFormed : Type 0
TryingFormed = (db : Database) → KeepsLimits db → is_well_formed (trying_directives db) ≡ true
