-- The trees of what the methods make.
use Rattle.std.proofs.Common.{◌≡◌, ℕ, Bool, Some, None, List, [], ◌∷◌, length, map, refl, sym, ap, ◌∙◌}
use Rattle.std.specs.Global.{Box, Vec}
use Rattle.inform_tree.specs.declared.values.SumOp.{SumOp}
use Rattle.inform_tree.specs.declared.values.ProdOp.{ProdOp}
use Rattle.inform_tree.specs.declared.values.Expr.{Expr}
use Rattle.inform_tree.specs.declared.values.Expr.TheVariants as ev
use Rattle.inform_tree.specs.Values.{Expression, expression_step, expression_of, arguments, terms, factors}
use Rattle.inform_tree.specs.declared.values.Expr.TheOpen as eo
use Rattle.inform_tree.specs.declared.values.Expr.TheFolds.{fold-roll-Expr}
use Rattle.inform_tree.specs.declared.conditions.Relation.{Relation}
use Rattle.inform_tree.specs.declared.conditions.Cond.{Cond}
use Rattle.inform_tree.specs.declared.conditions.Cond.TheVariants as cv
use Rattle.inform_tree.specs.declared.conditions.Cond.TheOpen as co
use Rattle.inform_tree.specs.declared.conditions.Cond.TheFolds.{fold-roll-Cond}
use Rattle.inform_tree.specs.Conditions as c
use Rattle.inform_tree.specs.Conditions.{Condition, condition_step, condition_of}
use Rattle.inform_parser.specs.Guards.{conditions_in}
use Rattle.inform_tree.specs.declared.statements.Change.{Change}
use Rattle.inform_tree.specs.declared.statements.Item.{Item}
use Rattle.inform_tree.specs.declared.statements.Case.{Case}
use Rattle.inform_tree.specs.declared.statements.Stmt.{Stmt}
use Rattle.inform_tree.specs.declared.statements.Stmt.TheVariants as sv
use Rattle.inform_tree.specs.declared.statements.Stmt.TheOpen as so
use Rattle.inform_tree.specs.declared.statements.Stmt.TheFolds.{fold-roll-Stmt}
use Rattle.inform_tree.specs.Statements as s
use Rattle.inform_tree.specs.Statements.{Statement, Statements, Choice, statement_step, case_step, statement_of, statements_of, assignment_of, cases_of}
use Rattle.inform_tree.specs.Values as v
use Rattle.inform_tree.proofs.Views.{expression_of_sum, expression_of_product, statement_of_if, statement_of_while, statement_of_do, statement_of_for, statement_of_switch, statement_of_switch_with_default}
use Rattle.inform_grammar.specs.Trees.{product_of, sum_of}
use Rattle.inform_parser.specs.Views.{factor_of, term_of, factors_of, terms_of, expressions_of, items_in}

no_factor : (x : Expression) (xs : List (ProdOp × Expr)) → length xs ≡ 0 → x ≡ product_of x (map factor_of xs)
no_factor x [] e = refl
no_factor x (y ∷ ys) e = absurd (cc)

pub product_alone : (x : Expression) (xs : Vec (ProdOp × Expr)) → length xs.items ≡ 0 → x ≡ product_of x (factors_of xs)
product_alone x xs e = no_factor x xs.items e

some_factors : (x : Expression) (xs : List (ProdOp × Expr)) → (length xs ≡ 0 → ⊥) → v.Product x (factors (map factor_of xs)) ≡ product_of x (map factor_of xs)
unfolding factor_of
some_factors x [] e = absurd (e refl)
some_factors x (y ∷ ys) e = refl

pub product_chain : (x : Box Expr) (xs : Vec (ProdOp × Expr)) → (length xs.items ≡ 0 → ⊥)
    → expression_of (ev.Product x xs) ≡ product_of (expression_of x.value) (factors_of xs)
unfolding factor_of
product_chain x xs e = expression_of_product x xs ∙ some_factors (expression_of x.value) xs.items e

no_term : (x : Expression) (xs : List (SumOp × Expr)) → length xs ≡ 0 → x ≡ sum_of x (map term_of xs)
no_term x [] e = refl
no_term x (y ∷ ys) e = absurd (cc)

pub sum_alone : (x : Expression) (xs : Vec (SumOp × Expr)) → length xs.items ≡ 0 → x ≡ sum_of x (terms_of xs)
sum_alone x xs e = no_term x xs.items e

some_terms : (x : Expression) (xs : List (SumOp × Expr)) → (length xs ≡ 0 → ⊥) → v.Sum x (terms (map term_of xs)) ≡ sum_of x (map term_of xs)
unfolding term_of
some_terms x [] e = absurd (e refl)
some_terms x (y ∷ ys) e = refl

pub sum_chain : (x : Box Expr) (xs : Vec (SumOp × Expr)) → (length xs.items ≡ 0 → ⊥)
    → expression_of (ev.Sum x xs) ≡ sum_of (expression_of x.value) (terms_of xs)
unfolding term_of
sum_chain x xs e = expression_of_sum x xs ∙ some_terms (expression_of x.value) xs.items e

-- ---- each expression

pub expression_of_number : (n : ℕ) → expression_of (ev.Number n) ≡ v.Number n
expression_of_number n = ap expression_of (sym (ev.rolls-Number n)) ∙ fold-roll-Expr Expression expression_step (eo.Number n)

pub expression_of_char : (n : ℕ) → expression_of (ev.Char n) ≡ v.Char n
expression_of_char n = ap expression_of (sym (ev.rolls-Char n)) ∙ fold-roll-Expr Expression expression_step (eo.Char n)

pub expression_of_name : (n : List ℕ) → expression_of (ev.Name n) ≡ v.Name n
expression_of_name n = ap expression_of (sym (ev.rolls-Name n)) ∙ fold-roll-Expr Expression expression_step (eo.Name n)

pub expression_of_entry : (n : List ℕ) (w : Bool) (x : Box Expr) → expression_of (ev.Entry n w x) ≡ v.Entry n w (expression_of x.value)
expression_of_entry n w x = ap expression_of (sym (ev.rolls-Entry n w x)) ∙ fold-roll-Expr Expression expression_step (eo.Entry n w x)

pub expression_of_call : (n : List ℕ) (xs : Vec Expr) → expression_of (ev.Call n xs) ≡ v.Call n (arguments (expressions_of xs))
expression_of_call n xs = ap expression_of (sym (ev.rolls-Call n xs)) ∙ fold-roll-Expr Expression expression_step (eo.Call n xs)

pub expression_of_random : (x : Box Expr) → expression_of (ev.Random x) ≡ v.Random (expression_of x.value)
expression_of_random x = ap expression_of (sym (ev.rolls-Random x)) ∙ fold-roll-Expr Expression expression_step (eo.Random x)

pub expression_of_neg : (x : Box Expr) → expression_of (ev.Neg x) ≡ v.Neg (expression_of x.value)
expression_of_neg x = ap expression_of (sym (ev.rolls-Neg x)) ∙ fold-roll-Expr Expression expression_step (eo.Neg x)

pub factor_of_pair : (op : ProdOp) (x : Expr) → factor_of (op, x) ≡ (op, expression_of x)
unfolding factor_of
factor_of_pair op x = refl

pub term_of_pair : (op : SumOp) (x : Expr) → term_of (op, x) ≡ (op, expression_of x)
unfolding term_of
term_of_pair op x = refl

-- ---- each condition

pub condition_of_compare : (op : Relation) (x y : Expr) → condition_of (cv.Compare op x y) ≡ c.Compare op (expression_of x) (expression_of y)
condition_of_compare op x y = ap condition_of (sym (cv.rolls-Compare op x y)) ∙ fold-roll-Cond Condition condition_step (co.Compare op x y)

pub condition_of_nonzero : (x : Expr) → condition_of (cv.Nonzero x) ≡ c.Nonzero (expression_of x)
condition_of_nonzero x = ap condition_of (sym (cv.rolls-Nonzero x)) ∙ fold-roll-Cond Condition condition_step (co.Nonzero x)

pub condition_of_all : (xs : Vec Cond) → condition_of (cv.All xs) ≡ c.All (c.conditions (conditions_in xs))
condition_of_all xs = ap condition_of (sym (cv.rolls-All xs)) ∙ fold-roll-Cond Condition condition_step (co.All xs)

pub condition_of_any : (xs : Vec Cond) → condition_of (cv.Any xs) ≡ c.Any (c.conditions (conditions_in xs))
condition_of_any xs = ap condition_of (sym (cv.rolls-Any xs)) ∙ fold-roll-Cond Condition condition_step (co.Any xs)

pub condition_of_not : (x : Box Cond) → condition_of (cv.Not x) ≡ c.Not (condition_of x.value)
condition_of_not x = ap condition_of (sym (cv.rolls-Not x)) ∙ fold-roll-Cond Condition condition_step (co.Not x)

pub ruleset conditions = (condition_of_compare, condition_of_nonzero, condition_of_all, condition_of_any, condition_of_not)

-- ---- each statement

pub statement_of_empty : statement_of sv.Empty ≡ s.Empty
statement_of_empty = ap statement_of (sym sv.rolls-Empty) ∙ fold-roll-Stmt Statement (List Choice × Statements) statement_step case_step so.Empty

pub statement_of_break : statement_of sv.Break ≡ s.Break
statement_of_break = ap statement_of (sym sv.rolls-Break) ∙ fold-roll-Stmt Statement (List Choice × Statements) statement_step case_step so.Break

pub statement_of_continue : statement_of sv.Continue ≡ s.Continue
statement_of_continue = ap statement_of (sym sv.rolls-Continue) ∙ fold-roll-Stmt Statement (List Choice × Statements) statement_step case_step so.Continue

pub statement_of_quit : statement_of sv.Quit ≡ s.Quit
statement_of_quit = ap statement_of (sym sv.rolls-Quit) ∙ fold-roll-Stmt Statement (List Choice × Statements) statement_step case_step so.Quit

pub statement_of_rtrue : statement_of sv.Rtrue ≡ s.Rtrue
statement_of_rtrue = ap statement_of (sym sv.rolls-Rtrue) ∙ fold-roll-Stmt Statement (List Choice × Statements) statement_step case_step so.Rtrue

pub statement_of_rfalse : statement_of sv.Rfalse ≡ s.Rfalse
statement_of_rfalse = ap statement_of (sym sv.rolls-Rfalse) ∙ fold-roll-Stmt Statement (List Choice × Statements) statement_step case_step so.Rfalse

pub statement_of_newline : statement_of sv.NewLine ≡ s.NewLine
statement_of_newline = ap statement_of (sym sv.rolls-NewLine) ∙ fold-roll-Stmt Statement (List Choice × Statements) statement_step case_step so.NewLine

pub statement_of_block : (xs : Vec Stmt) → statement_of (sv.Block xs) ≡ s.Block (statements_of xs.items)
statement_of_block xs = ap statement_of (sym (sv.rolls-Block xs)) ∙ fold-roll-Stmt Statement (List Choice × Statements) statement_step case_step (so.Block xs)

pub statement_of_change : (x : Change) → statement_of (sv.Change x) ≡ s.Assign (assignment_of x)
statement_of_change x = ap statement_of (sym (sv.rolls-Change x)) ∙ fold-roll-Stmt Statement (List Choice × Statements) statement_step case_step (so.Change x)

pub statement_of_call : (n : List ℕ) (xs : Vec Expr) → statement_of (sv.Call n xs) ≡ s.Call n (arguments (expressions_of xs))
statement_of_call n xs = ap statement_of (sym (sv.rolls-Call n xs)) ∙ fold-roll-Stmt Statement (List Choice × Statements) statement_step case_step (so.Call n xs)

pub statement_of_no_value : statement_of (sv.Return None) ≡ s.Return None
statement_of_no_value = ap statement_of (sym (sv.rolls-Return None)) ∙ fold-roll-Stmt Statement (List Choice × Statements) statement_step case_step (so.Return None)

pub statement_of_return : (x : Expr) → statement_of (sv.Return (Some x)) ≡ s.Return (Some (expression_of x))
statement_of_return x = ap statement_of (sym (sv.rolls-Return (Some x))) ∙ fold-roll-Stmt Statement (List Choice × Statements) statement_step case_step (so.Return (Some x))

pub statement_of_print : (xs : Vec Item) → statement_of (sv.Print xs) ≡ s.Print (items_in xs)
statement_of_print xs = ap statement_of (sym (sv.rolls-Print xs)) ∙ fold-roll-Stmt Statement (List Choice × Statements) statement_step case_step (so.Print xs)

pub statement_of_read : (x y : List ℕ) → statement_of (sv.Read x y) ≡ s.Read x y
statement_of_read x y = ap statement_of (sym (sv.rolls-Read x y)) ∙ fold-roll-Stmt Statement (List Choice × Statements) statement_step case_step (so.Read x y)

pub no_cases : (xs : List Case) → xs ≡ [] → cases_of xs ≡ s.NoCases
no_cases xs e = rw e refl

pub ruleset bodies = (statement_of_if, statement_of_while, statement_of_do, statement_of_for, statement_of_switch, statement_of_switch_with_default, condition_of_nonzero)
