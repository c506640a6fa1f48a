-- The tree of what has no part that is a statement, an equation a variant.
use Rattle.std.proofs.Common.{◌≡◌, ◌∙◌, ℕ, ◌*◌, ◌≤◌, List, Bool, sym, ap, arith}
use Rattle.std.specs.Global.{Box}
use Rattle.inform_tree.specs.Values as v
use Rattle.inform_tree.specs.Values.{Expression, expression_step, expression_of}
use Rattle.inform_tree.specs.Statements as s
use Rattle.inform_tree.specs.Statements.{Statement, Statements, Choice, statement_step, case_step, statement_of}
use Rattle.inform_tree.specs.Depths.{statement_depth}
use Rattle.inform_tree.specs.declared.values.Expr.{Expr}
use Rattle.inform_tree.specs.declared.values.Expr.TheVariants as ev
use Rattle.inform_tree.specs.declared.values.Expr.TheOpen as eo
use Rattle.inform_tree.specs.declared.values.Expr.TheFolds.{fold-roll-Expr}
use Rattle.inform_tree.specs.declared.statements.Stmt.TheVariants as sv
use Rattle.inform_tree.specs.declared.statements.Stmt.TheOpen as so
use Rattle.inform_tree.specs.declared.statements.Stmt.TheFolds.{fold-roll-Stmt}

pub statement_of_empty : statement_of sv.Empty ≡ s.Empty
statement_of_empty = ap statement_of (sym sv.rolls-Empty) ∙ fold-roll-Stmt Statement (List Choice × Statements) statement_step case_step so.Empty

pub statement_of_break : statement_of sv.Break ≡ s.Break
statement_of_break = ap statement_of (sym sv.rolls-Break) ∙ fold-roll-Stmt Statement (List Choice × Statements) statement_step case_step so.Break

pub statement_of_continue : statement_of sv.Continue ≡ s.Continue
statement_of_continue = ap statement_of (sym sv.rolls-Continue) ∙ fold-roll-Stmt Statement (List Choice × Statements) statement_step case_step so.Continue

pub statement_of_quit : statement_of sv.Quit ≡ s.Quit
statement_of_quit = ap statement_of (sym sv.rolls-Quit) ∙ fold-roll-Stmt Statement (List Choice × Statements) statement_step case_step so.Quit

pub statement_of_rtrue : statement_of sv.Rtrue ≡ s.Rtrue
statement_of_rtrue = ap statement_of (sym sv.rolls-Rtrue) ∙ fold-roll-Stmt Statement (List Choice × Statements) statement_step case_step so.Rtrue

pub statement_of_rfalse : statement_of sv.Rfalse ≡ s.Rfalse
statement_of_rfalse = ap statement_of (sym sv.rolls-Rfalse) ∙ fold-roll-Stmt Statement (List Choice × Statements) statement_step case_step so.Rfalse

pub statement_of_new_line : statement_of sv.NewLine ≡ s.NewLine
statement_of_new_line = ap statement_of (sym sv.rolls-NewLine) ∙ fold-roll-Stmt Statement (List Choice × Statements) statement_step case_step so.NewLine

pub statement_of_read : (name words : List ℕ) → statement_of (sv.Read name words) ≡ s.Read name words
statement_of_read name words = ap statement_of (sym (sv.rolls-Read name words)) ∙ fold-roll-Stmt Statement (List Choice × Statements) statement_step case_step (so.Read name words)

pub expression_of_number : (n : ℕ) → expression_of (ev.Number n) ≡ v.Number n
expression_of_number n = ap expression_of (sym (ev.rolls-Number n)) ∙ fold-roll-Expr Expression expression_step (eo.Number n)

pub expression_of_char : (byte : ℕ) → expression_of (ev.Char byte) ≡ v.Char byte
expression_of_char byte = ap expression_of (sym (ev.rolls-Char byte)) ∙ fold-roll-Expr Expression expression_step (eo.Char byte)

pub expression_of_name : (name : List ℕ) → expression_of (ev.Name name) ≡ v.Name name
expression_of_name name = ap expression_of (sym (ev.rolls-Name name)) ∙ fold-roll-Expr Expression expression_step (eo.Name name)

pub expression_of_entry : (name : List ℕ) (words : Bool) (index : Box Expr)
    → expression_of (ev.Entry name words index) ≡ v.Entry name words (expression_of index.value)
expression_of_entry name words index = ap expression_of (sym (ev.rolls-Entry name words index)) ∙ fold-roll-Expr Expression expression_step (eo.Entry name words index)

-- a statement has some depth
pub some_depth : (x : Statement) → 1 ≤ 2 * statement_depth x
some_depth s.Empty = omega arith
some_depth x = omega arith
