use Rattle.std.proofs.Common.{List, ◌++◌, ◌∙◌, ap}
use Rattle.inform_tree.specs.declared.values.SumOp.{SumOp}
use Rattle.inform_tree.specs.declared.values.ProdOp.{ProdOp}
use Rattle.inform_tree.specs.declared.values.Expr.{Expr}
use Rattle.inform_tree.specs.Values.{Expression, terms_of, factors_of}
use Rattle.inform_lexemes.specs.Lexemes.{Lexeme}
use Rattle.inform_lexer.specs.Written.{text_of}
use Rattle.inform_printer.specs.ValueLexemes.{value_lexemes, term_lexemes, factor_lexemes}
use Rattle.inform_printer.proofs.Loops.{ended}
use Rattle.inform_printer.proofs.Trees.{sum_tree, product_tree}
use Rattle.inform_printer.proofs.values.+values.Goals as goal

pub put_terms-returns : goal.put_terms-returns
put_terms-returns t c =
    let shown : List (SumOp × Expr) → List Lexeme → List Lexeme = λ xs. term_lexemes (terms_of xs) in
    let l = c.loop-op in
    ended shown shown _ _ l.op-index _ _ c.loop-op-test.false c.deref-op-items.ensures.value l.invariant

pub put_factors-returns : goal.put_factors-returns
put_factors-returns t c =
    let shown : List (ProdOp × Expr) → List Lexeme → List Lexeme =
    λ xs. factor_lexemes (factors_of xs) in
    let l = c.loop-op in
    ended shown shown _ _ l.op-index _ _ c.loop-op-test.false c.deref-op-items.ensures.value l.invariant

pub put_value-returns-in_ok-put_closing-in-Sum : goal.put_value-returns-in_ok-put_closing-in-Sum
put_value-returns-in_ok-put_closing-in-Sum t c rest =
    c.in_ok-put_closing-in-Sum.ensures rest
    ∙ c.in_ok-put_terms-in-Sum.ensures _
    ∙ c.in_ok-put_first-in-Sum.ensures _
    ∙ ap (λ (x : Expression). c.args.out.now.items ++ text_of (value_lexemes c.args.part x rest))
    (sum_tree _ _ _ _ c.in-Sum.is c.deref-in-Sum.ensures)

pub put_value-returns-in_ok-put_closing-in-Product : goal.put_value-returns-in_ok-put_closing-in-Product
put_value-returns-in_ok-put_closing-in-Product t c rest =
    c.in_ok-put_closing-in-Product.ensures rest
    ∙ c.in_ok-put_factors-in-Product.ensures _
    ∙ c.in_ok-put_first-in-Product.ensures _
    ∙ ap (λ (x : Expression). c.args.out.now.items ++ text_of (value_lexemes c.args.part x rest))
    (product_tree _ _ _ _ c.in-Product.is c.deref-in-Product.ensures)
