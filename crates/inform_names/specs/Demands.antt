-- What each place of a program demands of what stands there, in the order of its text. It takes no
-- names to know.
use Rattle.std.specs.Prelude.{ℕ, ◌+◌, Bool, true, false, List, [], ◌∷◌, Option, Some, None}
use Rattle.inform_tree.specs.declared.values.Const.{Const}
use Rattle.inform_tree.specs.declared.values.Const.TheVariants as k
use Rattle.inform_tree.specs.declared.statements.Head.{Head}
use Rattle.inform_tree.specs.Values as v
use Rattle.inform_tree.specs.Values.{Expression, Arguments, Terms, Factors}
use Rattle.inform_tree.specs.Conditions as c
use Rattle.inform_tree.specs.Conditions.{Condition, Conditions}
use Rattle.inform_tree.specs.Statements as s
use Rattle.inform_tree.specs.Statements.{Statement, Statements, Cases, Default, Assignment, PrintItem, Choice, assignment_if_any, condition_if_any}
use Rattle.inform_names.specs.declared.enclosures.Enclosure.{Enclosure}

-- what one place demands
pub data Demand : Type 0 where
  -- a number that isn't too wide
  Number : ℕ → Demand
  -- the name of a constant
  Constant : List ℕ → Demand
  -- the name of a constant, a global or a local
  Value : List ℕ → Demand
  -- the name of a global or a local
  Variable : List ℕ → Demand
  -- the name of an array, of words where the truth value is true, and else of bytes
  Array : List ℕ → Bool → Demand
  -- the name of a routine that takes so many arguments
  Call : List ℕ → ℕ → Demand
  -- that a `break` or `continue` has its loop, as the truth value says
  Leave : Bool → Demand

-- what several places demand, from left to right
pub data Demands : Type 0 where
  Nothing : Demands
  One : Demand → Demands
  Both : Demands → Demands → Demands

-- the demands of what may be left out
abbrev pub optional_demands : {X : Type 0} → (X → Demands) → Option X → Demands
optional_demands demands None = Nothing
optional_demands demands (Some x) = demands x

-- ---- constants

abbrev pub constant_demands : Const → Demands
constant_demands (k.Number n) = One (Number n)
constant_demands (k.Char byte) = Nothing
constant_demands (k.Name name) = One (Constant name)
constant_demands (k.Minus n) = One (Number n)

abbrev pub constants_demands : List Const → Demands
constants_demands [] = Nothing
constants_demands (x ∷ xs) = Both (constant_demands x) (constants_demands xs)

-- ---- expressions

abbrev pub argument_count : Arguments → ℕ
argument_count v.NoArguments = 0
argument_count (v.MoreArguments x xs) = argument_count xs + 1

abbrev mutual
  pub expression_demands : Expression → Demands
  expression_demands (v.Number n) = One (Number n)
  expression_demands (v.Char byte) = Nothing
  expression_demands (v.Name name) = One (Value name)
  expression_demands (v.Entry name words index) =
      Both (One (Array name words)) (expression_demands index)
  expression_demands (v.Call name xs) =
      Both (One (Call name (argument_count xs))) (arguments_demands xs)
  expression_demands (v.Random limit) = expression_demands limit
  expression_demands (v.Neg operand) = expression_demands operand
  expression_demands (v.Sum first xs) = Both (expression_demands first) (terms_demands xs)
  expression_demands (v.Product first xs) = Both (expression_demands first) (factors_demands xs)

  pub arguments_demands : Arguments → Demands
  arguments_demands v.NoArguments = Nothing
  arguments_demands (v.MoreArguments x xs) = Both (expression_demands x) (arguments_demands xs)

  pub terms_demands : Terms → Demands
  terms_demands v.NoTerms = Nothing
  terms_demands (v.MoreTerms op x xs) = Both (expression_demands x) (terms_demands xs)

  pub factors_demands : Factors → Demands
  factors_demands v.NoFactors = Nothing
  factors_demands (v.MoreFactors op x xs) = Both (expression_demands x) (factors_demands xs)

-- ---- conditions

abbrev mutual
  pub condition_demands : Condition → Demands
  condition_demands (c.Compare relation left right) =
      Both (expression_demands left) (expression_demands right)
  condition_demands (c.Nonzero x) = expression_demands x
  condition_demands (c.All xs) = conditions_demands xs
  condition_demands (c.Any xs) = conditions_demands xs
  condition_demands (c.Not x) = condition_demands x

  pub conditions_demands : Conditions → Demands
  conditions_demands c.NoConditions = Nothing
  conditions_demands (c.MoreConditions x xs) = Both (condition_demands x) (conditions_demands xs)

-- ---- changes, items of `print` and choices

abbrev pub assignment_demands : Assignment → Demands
assignment_demands (s.Set name x) = Both (One (Variable name)) (expression_demands x)
assignment_demands (s.SetEntry name words index x) =
    Both (One (Array name words)) (Both (expression_demands index) (expression_demands x))
assignment_demands (s.Inc name) = One (Variable name)
assignment_demands (s.Dec name) = One (Variable name)

abbrev pub item_demands : PrintItem → Demands
item_demands (s.Text text) = Nothing
item_demands (s.Value x) = expression_demands x
item_demands (s.Char x) = expression_demands x

abbrev pub items_demands : List PrintItem → Demands
items_demands [] = Nothing
items_demands (x ∷ xs) = Both (item_demands x) (items_demands xs)

abbrev pub choice_demands : Choice → Demands
choice_demands x = Both (constant_demands x.0) (optional_demands constant_demands x.1)

abbrev pub choices_demands : List Choice → Demands
choices_demands [] = Nothing
choices_demands (x ∷ xs) = Both (choice_demands x) (choices_demands xs)

-- what stands in the brackets of a `for`
abbrev pub head_demands : Option Assignment → Option Condition → Option Assignment → Demands
head_demands first test next = Both (optional_demands assignment_demands first)
    (Both (optional_demands condition_demands test) (optional_demands assignment_demands next))

-- the same of a head of the program
abbrev pub head_demands_of : Head → Demands
head_demands_of head = head_demands (assignment_if_any head.first) (condition_if_any head.test)
    (assignment_if_any head.next)

-- ---- statements, each with the loops and `switch`es round it

-- the body of a routine
abbrev pub no_loop : Enclosure
no_loop = record { in_loop = false; nearest_is_loop = false }

-- the body of a loop
abbrev pub a_loop : Enclosure
a_loop = record { in_loop = true; nearest_is_loop = true }

-- a body in a `switch`
abbrev pub switch_in : Enclosure → Enclosure
switch_in e = record { in_loop = e.in_loop; nearest_is_loop = false }

abbrev mutual
  pub statement_demands : Enclosure → Statement → Demands
  statement_demands e s.Empty = Nothing
  statement_demands e (s.Block body) = statements_demands e body
  statement_demands e (s.Assign change) = assignment_demands change
  statement_demands e (s.Call name xs) =
      Both (One (Call name (argument_count xs))) (arguments_demands xs)
  statement_demands e (s.If test body other) =
      Both (condition_demands test) (Both (statements_demands e body) (statements_demands e other))
  statement_demands e (s.While test body) =
      Both (condition_demands test) (statements_demands a_loop body)
  statement_demands e (s.Do body test) =
      Both (statements_demands a_loop body) (condition_demands test)
  statement_demands e (s.For first test next body) =
      Both (head_demands first test next) (statements_demands a_loop body)
  statement_demands e (s.Switch x xs rest) = Both (expression_demands x)
      (Both (cases_demands (switch_in e) xs) (default_demands (switch_in e) rest))
  statement_demands e s.Break = One (Leave e.nearest_is_loop)
  statement_demands e s.Continue = One (Leave e.in_loop)
  statement_demands e s.Quit = Nothing
  statement_demands e s.Rtrue = Nothing
  statement_demands e s.Rfalse = Nothing
  statement_demands e (s.Return x) = optional_demands expression_demands x
  statement_demands e s.NewLine = Nothing
  statement_demands e (s.Print items) = items_demands items
  statement_demands e (s.Read line words) = Both (One (Array line false)) (One (Array words false))

  pub statements_demands : Enclosure → Statements → Demands
  statements_demands e s.NoStatements = Nothing
  statements_demands e (s.MoreStatements x xs) =
      Both (statement_demands e x) (statements_demands e xs)

  pub cases_demands : Enclosure → Cases → Demands
  cases_demands e s.NoCases = Nothing
  cases_demands e (s.MoreCases choices body xs) =
      Both (choices_demands choices) (Both (statements_demands e body) (cases_demands e xs))

  pub default_demands : Enclosure → Default → Demands
  default_demands e s.NoDefault = Nothing
  default_demands e (s.SomeDefault body) = statements_demands e body
