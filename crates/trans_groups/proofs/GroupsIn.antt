-- The routines of groups among those that try them: their names, and who calls lines.
use Rattle.std.proofs.Common.{◌≡◌, ◌≢◌, arith, ℕ, zero, suc, ◌+◌, ◌<◌, ◌≤◌, ◌^◌, nat_eq, Bool, true, false, if◌then◌else◌, List, [], ◌∷◌, map, drop, length, slice_get, codes, Some, refl, ap}
use Rattle.std.specs.List.{AllByRecursion, starts_with}
use Rattle.std.proofs.lemmas.Fmt.{decimal_injective}
use Rattle.inform_tree.specs.Programs as d
use Rattle.inform_tree.specs.Programs.{DirectiveTree, Routine}
use Rattle.inform_names.specs.Meanings.{name_of}
use Rattle.inform_logic.specs.Holding.{Distinct}
use Rattle.inform_signature.proofs.Elements.{one_in}
use Rattle.scott_types.specs.declared.parts.Action.{Action}
use Rattle.scott_types.specs.Database.{Database}
use Rattle.scott_rules.specs.Groups.{Group, tail_of, groups_of, groups}
use Rattle.trans_specs.specs.Names.{group_name, line_name}
use Rattle.trans_specs.specs.Lines.{group_routine}
use Rattle.trans_specs.specs.Shaped.{IsIn, IsGroup, routine_calls}
use Rattle.trans_specs.proofs.Lengths.{few}
use Rattle.trans_groups.specs.Directives.{group_directives}
use Rattle.trans_groups.specs.Trying.{trying_directives}
use Rattle.trans_groups.specs.Parts.{GroupsAreDistinct, GroupsAreThere, GroupsAlone, GroupsCallLines}
use Rattle.trans_groups.proofs.Called.{search_calls_none, step_calls_none}

-- ---- what holds of the routine of each group

abbrev routines : Database → List Group → List DirectiveTree
routines db gs = map (λ g. Routine (group_routine db g)) gs

module _ (db : Database) (P : DirectiveTree → Type 0)
    (each : (g : Group) → IsIn g (groups db) → P (Routine (group_routine db g))) where
  each_of : (gs : List Group) → ((g : Group) → IsIn g gs → IsIn g (groups db))
      → AllByRecursion P (routines db gs)
  each_of [] among = tt
  each_of (g ∷ gs) among = (
    each g (among g (0, refl)),
    each_of gs (λ h there. among h (suc there.0, there.1)),
  )

  pub each_group : AllByRecursion P (group_directives db)
  each_group = each_of (groups db) (λ g there. there)

-- ---- names

same_number : (m n : ℕ) → m < 2 ^ 64 → n < 2 ^ 64 → group_name m ≡ group_name n → m ≡ n
same_number m n few_m few_n same = decimal_injective m n few_m few_n (ap (drop 6) same)

-- a head of a lower number
lower_apart : (db : Database) (m k : ℕ) (actions : List Action) → m < k
    → k + length actions ≤ 2 ^ 63
    → AllByRecursion (λ y. group_name m ≢ name_of y) (routines db (groups_of k actions))
lower_apart db m k [] less fits = tt
lower_apart db m k (a ∷ actions) less fits = by (nat_eq a.vocab 0)
    (lower_apart db m (k + 1) actions (omega (arith, less)) (omega (arith, fits))) where
      by : (plain : Bool) → AllByRecursion (λ y. group_name m ≢ name_of y)
          (routines db (groups_of (k + 1) actions))
          → AllByRecursion (λ y. group_name m ≢ name_of y) (routines db (if plain
          then groups_of (k + 1) actions
          else record { head = k; vocab = a.vocab; tail = tail_of (k + 1) actions }
          ∷ groups_of (k + 1) actions))
      by true more = more
      by false more = (
        λ same. absurd (omega (
          arith,
          less,
          same_number m k (omega (arith, less, fits)) (omega (arith, fits)) same,
        )),
        more,
      )

-- the routines of the groups from a line on have distinct names
heads_distinct : (db : Database) (k : ℕ) (actions : List Action) → k + length actions ≤ 2 ^ 63
    → Distinct (routines db (groups_of k actions))
heads_distinct db k [] fits = tt
heads_distinct db k (a ∷ actions) fits = by (nat_eq a.vocab 0)
    (heads_distinct db (k + 1) actions (omega (arith, fits))) where
      by : (plain : Bool) → Distinct (routines db (groups_of (k + 1) actions))
          → Distinct (routines db (if plain then groups_of (k + 1) actions
          else record { head = k; vocab = a.vocab; tail = tail_of (k + 1) actions }
          ∷ groups_of (k + 1) actions))
      by true more = more
      by false more =
          (lower_apart db k (k + 1) actions (omega arith) (omega (arith, fits)), more)

pub groups_are_distinct : GroupsAreDistinct
groups_are_distinct db limits = heads_distinct db 0 db.actions
    (omega (arith, few 5000 db.actions limits.sizes.actions))

-- ---- groups

routine_in : (db : Database) (gs : List Group) (at : ℕ) (g : Group) → slice_get gs at ≡ Some g
    → slice_get (routines db gs) at ≡ Some (Routine (group_routine db g))
routine_in db [] at g there = cc
routine_in db (x ∷ gs) zero g there = first there where
  first : Some x ≡ Some g
      → Some (Routine (group_routine db x)) ≡ Some (Routine (group_routine db g))
  first is = cc
routine_in db (x ∷ gs) (suc at) g there = routine_in db gs at g there

pub groups_are_there : GroupsAreThere
groups_are_there db g there = (suc (suc there.0), routine_in db (groups db) there.0 g there.1)

abbrev is_group_name : List ℕ → Bool
is_group_name name = starts_with nat_eq name (codes "group_")

-- where it is named as a group, it is the routine of a group
abbrev IsGroupByName : Database → DirectiveTree → Type 0
IsGroupByName db (d.Routine r) = is_group_name r.name ≡ true → IsGroup db r
IsGroupByName db other = Unit {0}

pub groups_alone : GroupsAlone
groups_alone db k r there is = one_in (IsGroupByName db) (trying_directives db) there.0 (
  λ named. cc,
  (λ named. cc, each_group db (IsGroupByName db) (λ g there named. (g, there, refl))),
) there.1 (ap is_group_name is)

-- ---- calls

-- where it calls a line, it is the routine of a group
abbrev IsGroupByCalls : Database → ℕ → DirectiveTree → Type 0
IsGroupByCalls db k (d.Routine r) = 0 < routine_calls (line_name k) r → IsGroup db r
IsGroupByCalls db k other = Unit {0}

pub groups_call_lines : GroupsCallLines
groups_call_lines db k r there = one_in (IsGroupByCalls db k) (trying_directives db) there.0 (
  λ calls. absurd (omega (arith, calls, search_calls_none (groups db) k)),
  (
    λ calls. absurd (omega (arith, calls, step_calls_none (groups db) k)),
    each_group db (IsGroupByCalls db k) (λ g there calls. (g, there, refl)),
  ),
) there.1
