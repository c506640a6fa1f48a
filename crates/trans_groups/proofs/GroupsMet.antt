-- The routines of groups meet their specifications, and so do all of these routines.
use Rattle.std.proofs.Common.{◌≡◌, ℕ, List, [], ◌∷◌, map, refl}
use Rattle.std.specs.List.{AllByRecursion}
use Rattle.inform_tree.specs.Programs.{Routine}
use Rattle.inform_meaning.specs.Worlds.{Program}
use Rattle.inform_logic.specs.Holding.{Holds}
use Rattle.inform_logic.proofs.Holding.{has}
use Rattle.scott_types.specs.Style.{Game, in_style}
use Rattle.scott_rules.specs.Groups.{Group, groups}
use Rattle.trans_specs.specs.Names.{group_name, line_number}
use Rattle.trans_specs.specs.Lines.{group_routine}
use Rattle.trans_specs.specs.ActionSpecs.{LineSpec}
use Rattle.trans_groups.specs.GroupSpecs.{GroupSpec}
use Rattle.trans_groups.specs.Laws.{GroupsMeetSpecs, AutomaticMeetsSpec, SearchMeetsSpec, TryingMeetsSpecs}
use Rattle.trans_groups.proofs.Heads.{GroupStands, groups_stand}
use Rattle.trans_groups.proofs.GroupRuns.{group_spec}

module _ (game : Game) (p : Program) (meets : LineSpec game p)
    (notes : (name : List ℕ) (at : ℕ) → p.notes name at ≡ line_number name) where
  specs_of : (gs : List Group) → AllByRecursion (GroupStands game.db) gs
      → Holds p (map (λ g. Routine (group_routine game.db g)) gs)
      → AllByRecursion (GroupSpec game p) gs
  specs_of [] there holds = tt
  specs_of (g ∷ gs) there holds = (
    group_spec game p meets g there.0 (has p holds.0 (notes (group_name g.head) holds.0.0)),
    specs_of gs there.1 holds.1,
  )

pub groups_meet_specs : GroupsMeetSpecs
groups_meet_specs style width db p translates serves meets = specs_of (in_style style db) p meets
    serves.notes_lines (groups db) (groups_stand db 0 db.actions refl) serves.holds

-- where each line meets its specification, so do the groups, the automatic step and the search
pub trying_meets_specs : GroupsMeetSpecs → AutomaticMeetsSpec → SearchMeetsSpec → TryingMeetsSpecs
trying_meets_specs groups automatic search style width db p translates serves meets =
    let each = groups style width db p translates (record {
      width_is = serves.width_is;
      holds = serves.holds.1.1;
      notes_lines = serves.notes_lines;
    }) meets in record {
      each_group = each;
      automatic = automatic style width db p (record {
        width_is = serves.width_is;
        holds = (serves.holds.1.0, tt);
        notes_lines = serves.notes_lines;
      }) each;
      search = search style width db p translates (record {
        width_is = serves.width_is;
        holds = (serves.holds.0, tt);
        notes_lines = serves.notes_lines;
      }) each;
    }
