-- How deep a tree is: a node counts 1, and each node directly inside another one 1 more.
use Rattle.std.specs.Prelude.{ℕ, ◌+◌, List, [], ◌∷◌, Option, Some, None, max, min}
use Rattle.inform_tree.specs.declared.statements.Head.{Head}
use Rattle.inform_tree.specs.Values as v
use Rattle.inform_tree.specs.Values.{Expression, Arguments, Terms, Factors}
use Rattle.inform_tree.specs.Conditions as c
use Rattle.inform_tree.specs.Conditions.{Condition, Conditions}
use Rattle.inform_tree.specs.Statements as s
use Rattle.inform_tree.specs.Statements.{Statement, Statements, Cases, Default, Assignment, PrintItem, assignment_if_any, condition_if_any}
use Rattle.inform_tree.specs.Programs.{RoutineTree}

-- ---- expressions; of a list the greatest depth, and 0 where it is empty

abbrev mutual
  pub expression_depth : Expression → ℕ
  expression_depth (v.Number n) = 1
  expression_depth (v.Char byte) = 1
  expression_depth (v.Name name) = 1
  expression_depth (v.Entry name words index) = expression_depth index + 1
  expression_depth (v.Call name xs) = arguments_depth xs + 1
  expression_depth (v.Random limit) = expression_depth limit + 1
  expression_depth (v.Neg operand) = expression_depth operand + 1
  expression_depth (v.Sum first xs) = max (expression_depth first) (terms_depth xs) + 1
  expression_depth (v.Product first xs) = max (expression_depth first) (factors_depth xs) + 1

  pub arguments_depth : Arguments → ℕ
  arguments_depth v.NoArguments = 0
  arguments_depth (v.MoreArguments x xs) = max (expression_depth x) (arguments_depth xs)

  pub terms_depth : Terms → ℕ
  terms_depth v.NoTerms = 0
  terms_depth (v.MoreTerms op x xs) = max (expression_depth x) (terms_depth xs)

  pub factors_depth : Factors → ℕ
  factors_depth v.NoFactors = 0
  factors_depth (v.MoreFactors op x xs) = max (expression_depth x) (factors_depth xs)

-- ---- conditions

abbrev mutual
  pub condition_depth : Condition → ℕ
  condition_depth (c.Compare relation left right) =
      max (expression_depth left) (expression_depth right) + 1
  condition_depth (c.Nonzero x) = expression_depth x + 1
  condition_depth (c.All xs) = conditions_depth xs + 1
  condition_depth (c.Any xs) = conditions_depth xs + 1
  condition_depth (c.Not x) = condition_depth x + 1

  pub conditions_depth : Conditions → ℕ
  conditions_depth c.NoConditions = 0
  conditions_depth (c.MoreConditions x xs) = max (condition_depth x) (conditions_depth xs)

-- ---- statements: changes, items of `print` and cases count nothing themselves

abbrev pub assignment_depth : Assignment → ℕ
assignment_depth (s.Set name x) = expression_depth x
assignment_depth (s.SetEntry name words index x) = max (expression_depth index) (expression_depth x)
assignment_depth (s.Inc name) = 0
assignment_depth (s.Dec name) = 0

abbrev pub item_depth : PrintItem → ℕ
item_depth (s.Text text) = 0
item_depth (s.Value x) = expression_depth x
item_depth (s.Char x) = expression_depth x

abbrev pub items_depth : List PrintItem → ℕ
items_depth [] = 0
items_depth (x ∷ xs) = max (item_depth x) (items_depth xs)

-- the depth of what may be left out
abbrev pub optional_depth : {X : Type 0} → (X → ℕ) → Option X → ℕ
optional_depth depth None = 0
optional_depth depth (Some x) = depth x

-- what stands in the brackets of a `for`
abbrev pub head_depth : Option Assignment → Option Condition → Option Assignment → ℕ
head_depth first test next =
    max (optional_depth assignment_depth first)
    (max (optional_depth condition_depth test) (optional_depth assignment_depth next))

-- the same of a head of the program
abbrev pub head_depth_of : Head → ℕ
head_depth_of head = head_depth (assignment_if_any head.first) (condition_if_any head.test)
    (assignment_if_any head.next)

abbrev mutual
  pub statement_depth : Statement → ℕ
  statement_depth s.Empty = 1
  statement_depth (s.Block body) = statements_depth body + 1
  statement_depth (s.Assign change) = assignment_depth change + 1
  statement_depth (s.Call name xs) = arguments_depth xs + 1
  statement_depth (s.If test body other) =
      max (condition_depth test) (max (statements_depth body) (statements_depth other)) + 1
  statement_depth (s.While test body) = max (condition_depth test) (statements_depth body) + 1
  statement_depth (s.Do body test) = max (statements_depth body) (condition_depth test) + 1
  statement_depth (s.For first test next body) =
      max (head_depth first test next) (statements_depth body) + 1
  statement_depth (s.Switch x xs rest) =
      max (expression_depth x) (max (cases_depth xs) (default_depth rest)) + 1
  statement_depth s.Break = 1
  statement_depth s.Continue = 1
  statement_depth s.Quit = 1
  statement_depth s.Rtrue = 1
  statement_depth s.Rfalse = 1
  statement_depth (s.Return x) = optional_depth expression_depth x + 1
  statement_depth s.NewLine = 1
  statement_depth (s.Print items) = items_depth items + 1
  statement_depth (s.Read line words) = 1

  pub statements_depth : Statements → ℕ
  statements_depth s.NoStatements = 0
  statements_depth (s.MoreStatements x xs) = max (statement_depth x) (statements_depth xs)

  pub cases_depth : Cases → ℕ
  cases_depth s.NoCases = 0
  cases_depth (s.MoreCases choices body xs) = max (statements_depth body) (cases_depth xs)

  pub default_depth : Default → ℕ
  default_depth s.NoDefault = 0
  default_depth (s.SomeDefault body) = statements_depth body

-- ---- routines

-- the greatest depth over the body
abbrev pub routine_depth : RoutineTree → ℕ
routine_depth r = statements_depth r.body

-- a depth as the program counts it, up to the greatest number of 32 bits
abbrev pub counted : ℕ → ℕ
counted n = min n 4294967295
