-- What a whole program needs to know of the routines that try groups.
use Rattle.std.specs.Prelude.{◌≡◌, ℕ, ◌<◌, codes}
use Rattle.std.specs.List.{AllByRecursion}
use Rattle.inform_tree.specs.declared.widths.Width.{Width}
use Rattle.inform_tree.specs.Programs.{RoutineTree, Routine}
use Rattle.inform_names.specs.declared.meanings.Kind.TheVariants as k
use Rattle.inform_names.specs.Meanings.{Known}
use Rattle.inform_logic.specs.Holding.{Distinct}
use Rattle.inform_signature.specs.Signatures.{IsKnown, Knows, signature}
use Rattle.inform_signature.specs.Soundness.{IsFaultless}
use Rattle.scott_types.specs.Database.{Database}
use Rattle.scott_types.specs.Limits.{KeepsLimits}
use Rattle.scott_rules.specs.Groups.{Group, groups}
use Rattle.trans_specs.specs.Names.{group_name, line_name}
use Rattle.trans_specs.specs.Lines.{group_routine}
use Rattle.trans_specs.specs.ActionSpecs.{HasLineRoutine}
use Rattle.trans_specs.specs.Meeting.{Translates}
use Rattle.trans_specs.specs.Shaped.{IsIn, IsGroup, routine_calls, program_calls}
use Rattle.trans_groups.specs.Directives.{group_directives}
use Rattle.trans_groups.specs.Trying.{trying_directives}

-- No two routines of groups have one name.
abbrev pub GroupsAreDistinct : Type 0
GroupsAreDistinct = (db : Database) → KeepsLimits db → Distinct (group_directives db)

-- ---- groups

-- Each group has its routine among them.
abbrev pub GroupsAreThere : Type 0
GroupsAreThere = (db : Database) (g : Group) → IsIn g (groups db)
    → IsIn (Routine (group_routine db g)) (trying_directives db)

-- A routine among them that has the name of a group is the routine of a group.
abbrev pub GroupsAlone : Type 0
GroupsAlone = (db : Database) (k : ℕ) (r : RoutineTree) → IsIn (Routine r) (trying_directives db)
    → r.name ≡ group_name k → IsGroup db r

-- ---- calls

-- Each group is called at one place of the search, the automatic step and the groups.
abbrev pub GroupsAreCalledOnce : Type 0
GroupsAreCalledOnce = (db : Database) → KeepsLimits db → (g : Group) → IsIn g (groups db)
    → program_calls (group_name g.head) (trying_directives db) ≡ 1

-- Among them, groups alone call lines.
abbrev pub GroupsCallLines : Type 0
GroupsCallLines = (db : Database) (k : ℕ) (r : RoutineTree)
    → IsIn (Routine r) (trying_directives db) → 0 < routine_calls (line_name k) r → IsGroup db r

-- ---- acceptance

-- Where the global and the lines that they take for granted are known, and their own names, none of
-- them has a fault.
abbrev pub TryingIsFaultless : Type 0
TryingIsFaultless = (width : Width) (db : Database) (known : Known) → Translates width db
    → IsKnown known (codes "nb", k.Global)
    → ((n : ℕ) → HasLineRoutine db n → IsKnown known (line_name n, k.Routine 0))
    → Knows known (signature (trying_directives db))
    → AllByRecursion (IsFaultless width known) (trying_directives db)
