-- The tree of what has several parts, an equation a variant: for the arms of a `match` whose answer
-- is made of the answers for two parts.
use Rattle.std.proofs.Common.{◌≡◌, List, sym, ◌∙◌, ap}
use Rattle.std.specs.Global.{Box, Vec}
use Rattle.inform_tree.specs.Values as v
use Rattle.inform_tree.specs.Values.{Expression, expression_step, expression_of, terms_of, factors_of}
use Rattle.inform_tree.specs.declared.values.SumOp.{SumOp}
use Rattle.inform_tree.specs.declared.values.ProdOp.{ProdOp}
use Rattle.inform_tree.specs.declared.values.Expr.{Expr}
use Rattle.inform_tree.specs.declared.values.Expr.TheVariants as ev
use Rattle.inform_tree.specs.declared.values.Expr.TheOpen as eo
use Rattle.inform_tree.specs.declared.values.Expr.TheFolds.{fold-roll-Expr}
use Rattle.std.specs.Prelude.{Some, None, option_map}
use Rattle.inform_tree.specs.Conditions.{condition_of}
use Rattle.inform_tree.specs.Statements as s
use Rattle.inform_tree.specs.Statements.{Statement, Statements, Choice, statement_step, case_step, statement_of, statements_of, cases_of, assignment_of}
use Rattle.inform_tree.specs.declared.conditions.Cond.{Cond}
use Rattle.inform_tree.specs.declared.statements.Head.{Head}
use Rattle.inform_tree.specs.declared.statements.Case.{Case}
use Rattle.inform_tree.specs.declared.statements.Stmt.{Stmt}
use Rattle.inform_tree.specs.declared.statements.Stmt.TheVariants as sv
use Rattle.inform_tree.specs.declared.statements.Stmt.TheOpen as so
use Rattle.inform_tree.specs.declared.statements.Stmt.TheFolds.{fold-roll-Stmt}

-- ---- expressions

pub expression_of_sum : (x : Box Expr) (xs : Vec (SumOp × Expr)) → expression_of (ev.Sum x xs) ≡ v.Sum (expression_of x.value) (terms_of xs.items)
expression_of_sum x xs = ap expression_of (sym (ev.rolls-Sum x xs)) ∙ fold-roll-Expr Expression expression_step (eo.Sum x xs)

pub expression_of_product : (x : Box Expr) (xs : Vec (ProdOp × Expr)) → expression_of (ev.Product x xs) ≡ v.Product (expression_of x.value) (factors_of xs.items)
expression_of_product x xs = ap expression_of (sym (ev.rolls-Product x xs)) ∙ fold-roll-Expr Expression expression_step (eo.Product x xs)

-- ---- statements

pub statement_of_if : (test : Cond) (body other : Vec Stmt) → statement_of (sv.If test body other) ≡ s.If (condition_of test) (statements_of body.items) (statements_of other.items)
statement_of_if test body other = ap statement_of (sym (sv.rolls-If test body other)) ∙ fold-roll-Stmt Statement (List Choice × Statements) statement_step case_step (so.If test body other)

pub statement_of_while : (test : Cond) (body : Vec Stmt) → statement_of (sv.While test body) ≡ s.While (condition_of test) (statements_of body.items)
statement_of_while test body = ap statement_of (sym (sv.rolls-While test body)) ∙ fold-roll-Stmt Statement (List Choice × Statements) statement_step case_step (so.While test body)

pub statement_of_do : (body : Vec Stmt) (test : Cond) → statement_of (sv.Do body test) ≡ s.Do (statements_of body.items) (condition_of test)
statement_of_do body test = ap statement_of (sym (sv.rolls-Do body test)) ∙ fold-roll-Stmt Statement (List Choice × Statements) statement_step case_step (so.Do body test)

pub statement_of_for : (head : Box Head) (body : Vec Stmt) → statement_of (sv.For head body) ≡ s.For (option_map assignment_of head.value.first) (option_map condition_of head.value.test) (option_map assignment_of head.value.next) (statements_of body.items)
statement_of_for head body = ap statement_of (sym (sv.rolls-For head body)) ∙ fold-roll-Stmt Statement (List Choice × Statements) statement_step case_step (so.For head body)

pub statement_of_switch : (x : Expr) (xs : Vec Case) → statement_of (sv.Switch x xs None) ≡ s.Switch (expression_of x) (cases_of xs.items) s.NoDefault
statement_of_switch x xs = ap statement_of (sym (sv.rolls-Switch x xs None)) ∙ fold-roll-Stmt Statement (List Choice × Statements) statement_step case_step (so.Switch x xs None)

pub statement_of_switch_with_default : (x : Expr) (xs : Vec Case) (rest : Vec Stmt) → statement_of (sv.Switch x xs (Some rest)) ≡ s.Switch (expression_of x) (cases_of xs.items) (s.SomeDefault (statements_of rest.items))
statement_of_switch_with_default x xs rest = ap statement_of (sym (sv.rolls-Switch x xs (Some rest))) ∙ fold-roll-Stmt Statement (List Choice × Statements) statement_step case_step (so.Switch x xs (Some rest))
