-- The trees that wait for the codes before them, the nearest first; what is added to them and taken
-- away.
use Rattle.std.specs.Prelude.{List, [], ◌∷◌}
use Rattle.inform_tree.specs.Values as v
use Rattle.inform_tree.specs.Values.{Expression, Arguments}
use Rattle.inform_tree.specs.Conditions as c
use Rattle.inform_tree.specs.Conditions.{Condition}
use Rattle.inform_tree.specs.Statements as s
use Rattle.inform_tree.specs.Statements.{Statement, Statements, Cases, Default, Choice}

-- the cases of a switch, and what it does where none fits
pub record Branches : Type 0 where
  pub cases : Cases
  pub otherwise : Default

-- values, arguments of calls, conditions, blocks, choices of one case, and cases of switches
pub record Parts : Type 0 where
  pub values : List Expression
  pub argument_lists : List Arguments
  pub tests : List Condition
  pub blocks : List Statements
  pub choices : List Choice
  pub switches : List Branches

abbrev pub none : Parts
none = record {
  values = [];
  argument_lists = [];
  tests = [];
  blocks = [];
  choices = [];
  switches = [];
}

-- all but the nearest
abbrev rest : {X : Type 0} → List X → List X
rest [] = []
rest (x ∷ xs) = xs

-- ---- the nearest, or what stands for it where none waits

abbrev value_in : List Expression → Expression
value_in [] = v.Number 0
value_in (x ∷ xs) = x

abbrev arguments_in : List Arguments → Arguments
arguments_in [] = v.NoArguments
arguments_in (x ∷ xs) = x

abbrev test_in : List Condition → Condition
test_in [] = c.Nonzero (v.Number 0)
test_in (x ∷ xs) = x

abbrev block_in : List Statements → Statements
block_in [] = s.NoStatements
block_in (x ∷ xs) = x

abbrev pub no_branches : Branches
no_branches = record { cases = s.NoCases; otherwise = s.NoDefault }

abbrev branches_in : List Branches → Branches
branches_in [] = no_branches
branches_in (x ∷ xs) = x

abbrev pub nearest_value : Parts → Expression
nearest_value p = value_in p.values

abbrev pub nearest_arguments : Parts → Arguments
nearest_arguments p = arguments_in p.argument_lists

abbrev pub nearest_test : Parts → Condition
nearest_test p = test_in p.tests

abbrev pub nearest_block : Parts → Statements
nearest_block p = block_in p.blocks

abbrev pub nearest_branches : Parts → Branches
nearest_branches p = branches_in p.switches

-- ---- with one more, and with the nearest taken away

abbrev pub with_value : Expression → Parts → Parts
with_value x p = record p { values = x ∷ p.values }

abbrev pub less_value : Parts → Parts
less_value p = record p { values = rest p.values }

abbrev pub with_arguments : Arguments → Parts → Parts
with_arguments x p = record p { argument_lists = x ∷ p.argument_lists }

abbrev pub less_arguments : Parts → Parts
less_arguments p = record p { argument_lists = rest p.argument_lists }

abbrev pub with_test : Condition → Parts → Parts
with_test x p = record p { tests = x ∷ p.tests }

abbrev pub less_test : Parts → Parts
less_test p = record p { tests = rest p.tests }

abbrev pub with_block : Statements → Parts → Parts
with_block x p = record p { blocks = x ∷ p.blocks }

abbrev pub less_block : Parts → Parts
less_block p = record p { blocks = rest p.blocks }

abbrev pub with_branches : Branches → Parts → Parts
with_branches x p = record p { switches = x ∷ p.switches }

abbrev pub less_branches : Parts → Parts
less_branches p = record p { switches = rest p.switches }

abbrev pub with_choice : Choice → Parts → Parts
with_choice x p = record p { choices = x ∷ p.choices }

-- all choices taken away
abbrev pub less_choices : Parts → Parts
less_choices p = record p { choices = [] }

-- a statement before the others of its block
abbrev pub with_statement : Statement → Parts → Parts
with_statement x p = with_block (s.MoreStatements x (nearest_block p)) (less_block p)
