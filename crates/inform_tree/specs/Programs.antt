-- Programs as lists of directives, and the one that a `Program` is.
use Rattle.std.specs.Prelude.{ℕ, Bool, List, Option, map}
use Rattle.inform_tree.specs.declared.values.Const.{Const}
use Rattle.inform_tree.specs.declared.programs.Program.{Program}
use Rattle.inform_tree.specs.declared.programs.Directive.{Directive}
use Rattle.inform_tree.specs.declared.programs.Directive.TheVariants as d
use Rattle.inform_tree.specs.declared.programs.Routine as r
use Rattle.inform_tree.specs.Statements.{Statements, statements_of}

-- ---- the trees

pub record RoutineTree : Type 0 where
  pub name : List ℕ
  pub locals : List (List ℕ)
  pub body : Statements

pub data DirectiveTree : Type 0 where
  Constant : List ℕ → Const → DirectiveTree
  Global : List ℕ → Option Const → DirectiveTree
  Array : List ℕ → Bool → List Const → DirectiveTree
  Routine : RoutineTree → DirectiveTree

-- ---- the trees of a program

abbrev pub routine_of : r.Routine → RoutineTree
routine_of x = record { name = x.name; locals = x.locals.items; body = statements_of x.body.items }

abbrev pub directive_of : Directive → DirectiveTree
directive_of (d.Constant name value) = Constant name value
directive_of (d.Global name value) = Global name value
directive_of (d.Array name words entries) = Array name words entries.items
directive_of (d.Routine x) = Routine (routine_of x)

abbrev pub program_of : Program → List DirectiveTree
program_of p = map directive_of p.directives.items
