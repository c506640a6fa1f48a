-- The programs of which the specifications speak.
use Rattle.std.specs.Prelude.{◌≡◌, ℕ, false, List, Some}
use Rattle.std.specs.List.{AllByRecursion}
use Rattle.inform_tree.specs.declared.widths.Width.{Width}
use Rattle.inform_tree.specs.Programs.{DirectiveTree}
use Rattle.inform_meaning.specs.Tables.{same_name}
use Rattle.inform_meaning.specs.Worlds.{Routine, Program}
use Rattle.inform_logic.specs.Holding.{Holds}
use Rattle.trans_specs.specs.Names.{line_number}

-- A program has words of this width and these directives among others, and notes its lines alone.
pub record Serves (width : Width) (ds : List DirectiveTree) (p : Program) : Type 0 where
  pub width_is : p.width ≡ width
  pub holds : Holds p ds
  pub notes_lines : (name : List ℕ) (at : ℕ) → p.notes name at ≡ line_number name

-- a program has a routine of this name
abbrev pub HasRoutine : Program → List ℕ → Type 0
HasRoutine p name = (r : Routine) × (p.routines name ≡ Some r)

-- a name is none of these
abbrev pub IsOther : List ℕ → List (List ℕ) → Type 0
IsOther name names = AllByRecursion (λ other. same_name name other ≡ false) names
