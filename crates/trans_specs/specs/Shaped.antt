-- The shape of a translated game.
use Rattle.std.specs.Prelude.{◌≡◌, ℕ, ◌+◌, ◌<◌, Bool, true, false, List, [], ◌∷◌, filter, slice_get, Some}
use Rattle.inform_tree.specs.Programs as t
use Rattle.inform_tree.specs.Programs.{RoutineTree, DirectiveTree}
use Rattle.inform_names.specs.Demands as d
use Rattle.inform_names.specs.Demands.{Demand, Demands, no_loop, statements_demands}
use Rattle.inform_meaning.specs.Tables.{same_name}
use Rattle.scott_types.specs.declared.states.State.{State}
use Rattle.scott_types.specs.Database.{Database}
use Rattle.scott_rules.specs.Groups.{Group, groups}
use Rattle.trans_specs.specs.Tables.{bit}
use Rattle.trans_specs.specs.Names.{group_name, line_name}
use Rattle.trans_specs.specs.Directives.{data_directives}
use Rattle.trans_specs.specs.Lines.{line_routine, group_routine}
use Rattle.trans_specs.specs.ActionSpecs.{HasLineRoutine}

-- ---- what stands in a program

abbrev pub IsIn : {X : Type 0} → X → List X → Type 0
IsIn x xs = (at : ℕ) × (slice_get xs at ≡ Some x)

abbrev pub is_declaration : DirectiveTree → Bool
is_declaration (t.Constant name x) = true
is_declaration (t.Global name x) = true
is_declaration (t.Array name words xs) = true
is_declaration (t.Routine r) = false

-- all directives but the routines
abbrev pub declarations : List DirectiveTree → List DirectiveTree
declarations ds = filter is_declaration ds

-- ---- the places at which a routine is called

abbrev pub demand_calls : List ℕ → Demand → ℕ
demand_calls name (d.Call other count) = bit (same_name name other)
demand_calls name demand = 0

abbrev pub demands_calls : List ℕ → Demands → ℕ
demands_calls name d.Nothing = 0
demands_calls name (d.One demand) = demand_calls name demand
demands_calls name (d.Both first second) = demands_calls name first + demands_calls name second

abbrev pub routine_calls : List ℕ → RoutineTree → ℕ
routine_calls name r = demands_calls name (statements_demands no_loop r.body)

abbrev pub directive_calls : List ℕ → DirectiveTree → ℕ
directive_calls name (t.Routine r) = routine_calls name r
directive_calls name directive = 0

abbrev pub program_calls : List ℕ → List DirectiveTree → ℕ
program_calls name [] = 0
program_calls name (directive ∷ directives) =
    directive_calls name directive + program_calls name directives

-- ---- the shape

-- a routine is that of a group
abbrev pub IsGroup : Database → RoutineTree → Type 0
IsGroup db r = (g : Group) × IsIn g (groups db) × (r ≡ group_routine db g)

-- a routine is that of a line
abbrev pub IsLine : Database → RoutineTree → Type 0
IsLine db r = (k : ℕ) × HasLineRoutine db k × (r ≡ line_routine db k)

-- The globals and arrays are those of the database and the state, and there is no constant. Each
-- line that isn't all zeros and each group has its routine, and no other routine has a name of
-- theirs; each group is called at one place, and only groups call lines.
pub record Shaped (db : Database) (s : State) (ds : List DirectiveTree) : Type 0 where
  pub declared : declarations ds ≡ data_directives db s
  pub lines : (k : ℕ) → HasLineRoutine db k → IsIn (t.Routine (line_routine db k)) ds
  pub groups_there : (g : Group) → IsIn g (groups db) → IsIn (t.Routine (group_routine db g)) ds
  pub lines_only : (k : ℕ) (r : RoutineTree) → IsIn (t.Routine r) ds → r.name ≡ line_name k
      → IsLine db r
  pub groups_only : (k : ℕ) (r : RoutineTree) → IsIn (t.Routine r) ds → r.name ≡ group_name k
      → IsGroup db r
  pub called_once : (g : Group) → IsIn g (groups db) → program_calls (group_name g.head) ds ≡ 1
  pub by_groups : (k : ℕ) → HasLineRoutine db k → (r : RoutineTree) → IsIn (t.Routine r) ds
      → 0 < routine_calls (line_name k) r → IsGroup db r
