-- The trees of what the grammar reads, as far as brackets and lists leave a choice.
use Rattle.std.specs.Prelude.{ℕ, List, [], ◌∷◌}
use Rattle.inform_tree.specs.declared.values.SumOp.{SumOp}
use Rattle.inform_tree.specs.declared.values.ProdOp.{ProdOp}
use Rattle.inform_tree.specs.Values as v
use Rattle.inform_tree.specs.Values.{Expression}
use Rattle.inform_tree.specs.Conditions as c
use Rattle.inform_tree.specs.Statements as s
use Rattle.inform_tree.specs.Programs as d
use Rattle.inform_tree.specs.Programs.{DirectiveTree}

-- ---- expressions

-- a part by itself is no chain
abbrev pub product_of : Expression → List (ProdOp × Expression) → Expression
product_of x [] = x
product_of x (y ∷ ys) = v.Product x (v.factors (y ∷ ys))

abbrev pub sum_of : Expression → List (SumOp × Expression) → Expression
sum_of x [] = x
sum_of x (y ∷ ys) = v.Sum x (v.terms (y ∷ ys))

-- ---- conditions

-- What stands where a condition is expected: an expression, which may go on as a part of a greater
-- one, or a condition that is no expression.
pub data Guard : Type 0 where
  Plain : Expression → Guard
  Tested : c.Condition → Guard

-- an expression by itself asks whether it isn't 0
abbrev pub condition : Guard → c.Condition
condition (Plain x) = c.Nonzero x
condition (Tested test) = test

-- how conditions are joined: by `&&` or by `||`
pub data Join : Type 0 where
  AllOf : Join
  AnyOf : Join

abbrev pub joined : Join → List c.Condition → c.Condition
joined AllOf xs = c.All (c.conditions xs)
joined AnyOf xs = c.Any (c.conditions xs)

-- ---- statements and routines

-- the cases of a `switch`
abbrev pub cases_tree : List (List s.Choice × List s.Statement) → s.Cases
cases_tree [] = s.NoCases
cases_tree (x ∷ xs) = s.MoreCases x.0 (s.statements x.1) (cases_tree xs)

abbrev pub routine_tree : List ℕ → List (List ℕ) → List s.Statement → DirectiveTree
routine_tree name locals xs =
    d.Routine (record { name = name; locals = locals; body = s.statements xs })
