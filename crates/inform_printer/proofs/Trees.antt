-- The tree of what has several parts, from the trees of the parts.
use Rattle.std.proofs.Common.{◌≡◌, ◌≢◌, List, [], ◌∷◌, Option, Some, None, length, map, sym, ◌∙◌, ap, refl, arith}
use Rattle.std.specs.Global.{Box, Vec}
use Rattle.inform_tree.specs.declared.values.SumOp.{SumOp}
use Rattle.inform_tree.specs.declared.values.ProdOp.{ProdOp}
use Rattle.inform_tree.specs.declared.values.Expr.{Expr}
use Rattle.inform_tree.specs.declared.values.Expr.TheVariants as ev
use Rattle.inform_tree.specs.declared.values.Expr.TheOpen as eo
use Rattle.inform_tree.specs.declared.values.Expr.TheFolds.{fold-roll-Expr}
use Rattle.inform_tree.specs.Values as v
use Rattle.inform_tree.specs.Values.{Expression, expression_step, expression_of, terms_of, factors_of}
use Rattle.inform_tree.specs.declared.statements.Item.{Item}
use Rattle.inform_tree.specs.declared.statements.Case.{Case}
use Rattle.inform_tree.specs.declared.statements.Stmt.{Stmt}
use Rattle.inform_tree.specs.declared.statements.Stmt.TheVariants as sv
use Rattle.inform_tree.specs.declared.statements.Stmt.TheOpen as so
use Rattle.inform_tree.specs.declared.statements.Stmt.TheFolds.{fold-roll-Stmt}
use Rattle.inform_tree.specs.Statements as s
use Rattle.inform_tree.specs.Statements.{Statement, Statements, Choice, Default, statement_step, case_step, print_item_of, statement_of, statements_of, cases_of}
use Rattle.inform_lexemes.specs.declared.keywords.Keyword.TheVariants as w
use Rattle.inform_lexemes.specs.Lexemes.{Lexeme, Word}
use Rattle.inform_printer.specs.StatementLexemes.{body_lexemes, else_lexemes}

-- ---- expressions

pub sum_tree : (value first : Expr) (x : Box Expr) (xs : Vec (SumOp × Expr)) → value ≡ ev.Sum x xs
    → first ≡ x.value
    → v.Sum (expression_of first) (terms_of xs.items) ≡ expression_of value
sum_tree value first x xs is same =
    ap (λ (y : Expr). v.Sum (expression_of y) (terms_of xs.items)) same
    ∙ sym (fold-roll-Expr Expression expression_step (eo.Sum x xs))
    ∙ ap expression_of (ev.rolls-Sum x xs ∙ sym is)

pub product_tree : (value first : Expr) (x : Box Expr) (xs : Vec (ProdOp × Expr))
    → value ≡ ev.Product x xs → first ≡ x.value
    → v.Product (expression_of first) (factors_of xs.items) ≡ expression_of value
product_tree value first x xs is same =
    ap (λ (y : Expr). v.Product (expression_of y) (factors_of xs.items)) same
    ∙ sym (fold-roll-Expr Expression expression_step (eo.Product x xs))
    ∙ ap expression_of (ev.rolls-Product x xs ∙ sym is)

-- ---- statements

-- an `else` with a statement is printed, and one without isn't
pub else_shown : (xs : List Stmt) (rest : List Lexeme) → length xs ≢ 0
    → else_lexemes (statements_of xs) rest ≡ Word w.Else ∷ body_lexemes (statements_of xs) rest
else_shown [] rest some = absurd (some refl)
else_shown (x ∷ xs) rest some = refl

pub else_hidden : (xs : List Stmt) (rest : List Lexeme) → length xs ≡ 0
    → else_lexemes (statements_of xs) rest ≡ rest
else_hidden [] rest none = refl
else_hidden (x ∷ xs) rest none = absurd (omega arith)

pub print_tree : (statement : Stmt) (items : List Item) (xs : Vec Item) → statement ≡ sv.Print xs
    → items ≡ xs.items
    → s.Print (map print_item_of items) ≡ statement_of statement
print_tree statement items xs is same =
    ap (λ (ys : List Item). s.Print (map print_item_of ys)) same
    ∙ sym (fold-roll-Stmt Statement (List Choice × Statements) statement_step case_step
    (so.Print xs))
    ∙ ap statement_of (sv.rolls-Print xs ∙ sym is)

-- what a `switch` does where no case fits
abbrev pub default_tree : Option (Vec Stmt) → Default
default_tree None = s.NoDefault
default_tree (Some body) = s.SomeDefault (statements_of body.items)

switched : (x : Expr) (xs : Vec Case) (other : Option (Vec Stmt))
    → s.Switch (expression_of x) (cases_of xs.items) (default_tree other) ≡ statement_of
    (sv.Switch x xs other)
switched x xs None =
    sym (fold-roll-Stmt Statement (List Choice × Statements) statement_step case_step
    (so.Switch x xs None)) ∙ ap statement_of (sv.rolls-Switch x xs None)
switched x xs (Some body) =
    sym (fold-roll-Stmt Statement (List Choice × Statements) statement_step case_step
    (so.Switch x xs (Some body))) ∙ ap statement_of (sv.rolls-Switch x xs (Some body))

pub switch_tree : (statement : Stmt) (x : Expr) (xs : Vec Case) (field other : Option (Vec Stmt))
    → statement ≡ sv.Switch x xs field → field ≡ other
    → s.Switch (expression_of x) (cases_of xs.items) (default_tree other) ≡ statement_of statement
switch_tree statement x xs field other is same =
    switched x xs other ∙ ap (λ (o : Option (Vec Stmt)). statement_of (sv.Switch x xs o)) (sym same)
    ∙ ap statement_of (sym is)
