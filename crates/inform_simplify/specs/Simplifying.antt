-- What a program may become when it is simplified: a relation by cases, from the inside out.
use Rattle.std.specs.Prelude.{◌≡◌, ℕ, Bool, true, false, List, [], ◌∷◌, Option, Some}
use Rattle.inform_tree.specs.declared.widths.Width.{Width}
use Rattle.inform_tree.specs.declared.values.Const.{Const}
use Rattle.inform_tree.specs.Values.{Expression}
use Rattle.inform_tree.specs.Conditions.{Condition}
use Rattle.inform_tree.specs.Statements as s
use Rattle.inform_tree.specs.Statements.{Statement, Statements, Cases, Default, Assignment, Choice}
use Rattle.inform_tree.specs.Programs as d
use Rattle.inform_tree.specs.Programs.{RoutineTree, DirectiveTree}
use Rattle.inform_simplify.specs.Tests.{truth_of, is_plain_test}
use Rattle.inform_simplify.specs.Redexes.{leaves, IsOpenIf, IsOpenWhile}

-- a statement in which no list of statements stands
abbrev pub is_leaf : Statement → Bool
is_leaf (s.Block body) = false
is_leaf (s.If test body other) = false
is_leaf (s.While test body) = false
is_leaf (s.Do body test) = false
is_leaf (s.For first test change body) = false
is_leaf (s.Switch x xs rest) = false
is_leaf x = true

-- ---- statements

mutual
  -- a list becomes another
  pub data Shortens (width : Width) : Statements → Statements → Type 0 where
    nothing : Shortens width s.NoStatements s.NoStatements
    each : (x x' : Statement) (xs xs' : Statements) → leaves x' ≡ false → Becomes width x x'
        → Shortens width xs xs'
        → Shortens width (s.MoreStatements x xs) (s.MoreStatements x' xs')
    -- what stands after a statement that leaves
    cut : (x : Statement) (xs : Statements) → leaves x ≡ true
        → Shortens width (s.MoreStatements x xs) (s.MoreStatements x s.NoStatements)
    -- a `while` that is never entered
    dropped : (test : Condition) (body xs xs' : Statements) → truth_of width test ≡ Some false
        → Shortens width xs xs' → Shortens width (s.MoreStatements (s.While test body) xs) xs'

  -- a statement becomes another
  pub data Becomes (width : Width) : Statement → Statement → Type 0 where
    leaf : (x : Statement) → is_leaf x ≡ true → Becomes width x x
    in_block : (body body' : Statements) → Shortens width body body'
        → Becomes width (s.Block body) (s.Block body')
    -- an `if` whose test is known is the one list
    if_true : (test : Condition) (body other body' : Statements)
        → truth_of width test ≡ Some true → Shortens width body body'
        → Becomes width (s.If test body other) (s.Block body')
    if_false : (test : Condition) (body other other' : Statements)
        → truth_of width test ≡ Some false → Shortens width other other'
        → Becomes width (s.If test body other) (s.Block other')
    -- and one with a plain test is the list that both of its lists became
    if_either : (test : Condition) (body other both : Statements) → is_plain_test test ≡ true
        → Shortens width body both → Shortens width other both
        → Becomes width (s.If test body other) (s.Block both)
    if_open : (test : Condition) (body other body' other' : Statements)
        → IsOpenIf width test body' other' → Shortens width body body'
        → Shortens width other other'
        → Becomes width (s.If test body other) (s.If test body' other')
    in_while : (test : Condition) (body body' : Statements) → IsOpenWhile width test
        → Shortens width body body' → Becomes width (s.While test body) (s.While test body')
    in_do : (body body' : Statements) (test : Condition) → Shortens width body body'
        → Becomes width (s.Do body test) (s.Do body' test)
    in_for : (first : Option Assignment) (test : Option Condition) (change : Option Assignment)
        (body body' : Statements) → Shortens width body body'
        → Becomes width (s.For first test change body) (s.For first test change body')
    in_switch : (x : Expression) (xs xs' : Cases) (rest rest' : Default)
        → CasesShorten width xs xs' → DefaultShortens width rest rest'
        → Becomes width (s.Switch x xs rest) (s.Switch x xs' rest')

  pub data CasesShorten (width : Width) : Cases → Cases → Type 0 where
    no_cases : CasesShorten width s.NoCases s.NoCases
    each_case : (choices : List Choice) (body body' : Statements) (xs xs' : Cases)
        → Shortens width body body' → CasesShorten width xs xs'
        → CasesShorten width (s.MoreCases choices body xs) (s.MoreCases choices body' xs')

  pub data DefaultShortens (width : Width) : Default → Default → Type 0 where
    no_default : DefaultShortens width s.NoDefault s.NoDefault
    some_default : (body body' : Statements) → Shortens width body body'
        → DefaultShortens width (s.SomeDefault body) (s.SomeDefault body')

-- ---- programs

abbrev pub with_body : RoutineTree → Statements → RoutineTree
with_body r body = record { name = r.name; locals = r.locals; body = body }

-- a routine gets another body, and other directives stay
pub data DirectiveShortens (width : Width) : DirectiveTree → DirectiveTree → Type 0 where
  constant : (name : List ℕ) (value : Const)
      → DirectiveShortens width (d.Constant name value) (d.Constant name value)
  global : (name : List ℕ) (value : Option Const)
      → DirectiveShortens width (d.Global name value) (d.Global name value)
  array : (name : List ℕ) (words : Bool) (entries : List Const)
      → DirectiveShortens width (d.Array name words entries) (d.Array name words entries)
  routine : (r : RoutineTree) (body : Statements) → Shortens width r.body body
      → DirectiveShortens width (d.Routine r) (d.Routine (with_body r body))

pub data ProgramShortens (width : Width) : List DirectiveTree → List DirectiveTree → Type 0 where
  no_directives : ProgramShortens width [] []
  each_directive : (x x' : DirectiveTree) (xs xs' : List DirectiveTree)
      → DirectiveShortens width x x' → ProgramShortens width xs xs'
      → ProgramShortens width (x ∷ xs) (x' ∷ xs')
