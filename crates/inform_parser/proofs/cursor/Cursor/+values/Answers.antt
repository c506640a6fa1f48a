use Rattle.std.proofs.Common.{◌∙◌, sym, ap, map, arith, refl}
use Rattle.inform_tree.specs.declared.values.Expr.{Expr}
use Rattle.inform_tree.specs.Values as v
use Rattle.inform_tree.specs.Values.{expression_of}
use Rattle.inform_parser.specs.Views.{factor_of, term_of}
use Rattle.inform_parser.proofs.Loops.{goes_on}
use Rattle.inform_parser.proofs.ValueSteps.{factor_more, factor_last, factor_alone, factor_read, factor_stops, factor_sign_stops, term_more, term_last, term_alone, term_read, term_stops, term_sign_stops, argument_more, argument_last, argument_read, arguments_as, entry_after_arrow, entry_after_name, primary_as, product_as, value_as, unary_as}
use Rattle.inform_grammar.specs.ValueRules.{name_after, factors_after, terms_after}
use Rattle.inform_parser.specs.Plans.{value_in_brackets}
use Rattle.inform_parser.proofs.TreesMade.{expression_of_number, expression_of_char, expression_of_name, expression_of_call, expression_of_entry, expression_of_random, expression_of_neg, product_alone, product_chain, sum_alone, sum_chain}
use Rattle.inform_parser.proofs.InTurn.{only, made, same, same_some, known, ended, memory, stops, stops_some, follows, follows_some, resumed, passed, there, other, other_some}
use Rattle.inform_grammar.specs.Rules as r
use Rattle.inform_parser.proofs.cursor.Cursor.«+values».Goals as goal

pub entry_after-returns-in_err-words : goal.entry_after-returns-in_err-words
entry_after-returns-in_err-words t c = same _ (entry_after_arrow _ _ (sym c.at_arrow.ensures ∙ c.if-at_arrow.true)) (stops _ c.from_residual.result c.from_residual.ensures.1 (only c.in_err-words.ensures))

pub entry_after-returns-in_err-index : goal.entry_after-returns-in_err-index
entry_after-returns-in_err-index t c = same _ (entry_after_arrow _ _ (sym c.at_arrow.ensures ∙ c.if-at_arrow.true)) (follows _ (only c.in_ok-words.ensures) (stops _ c.from_residual-in_err-index.result c.from_residual-in_err-index.ensures.1 (only c.in_err-index.ensures)))

pub entry_after-returns-in_err-new : goal.entry_after-returns-in_err-new
entry_after-returns-in_err-new t c = same _ (entry_after_arrow _ _ (sym c.at_arrow.ensures ∙ c.if-at_arrow.true)) (follows _ (only c.in_ok-words.ensures) (follows _ (only c.in_ok-index.ensures) (memory _ _ _ c.from_residual-in_err-new.result c.from_residual-in_err-new.ensures.1 (omega arith))))

pub entry_after-returns : goal.entry_after-returns
entry_after-returns t c = same _ (entry_after_name _ _ (sym c.at_arrow.ensures ∙ c.if-at_arrow.false)) c.name_after.ensures

pub factors_after-returns-in_err-factors : goal.factors_after-returns-in_err-factors
unfolding factors_after
factors_after-returns-in_err-factors t c = stops _ c.from_residual.result c.from_residual.ensures.1 c.in_err-factors.ensures

pub terms_after-returns-in_err-terms : goal.terms_after-returns-in_err-terms
unfolding terms_after
terms_after-returns-in_err-terms t c = stops _ c.from_residual.result c.from_residual.ensures.1 c.in_err-terms.ensures

pub name_after-returns-in_err-expect : goal.name_after-returns-in_err-expect
unfolding name_after
name_after-returns-in_err-expect t c = only (there _ _ (sym c.at.ensures ∙ c.if-at.true) (stops_some _ c.from_residual.result c.from_residual.ensures.1 (only c.in_err-expect.ensures)))

pub name_after-returns-in_err-arguments : goal.name_after-returns-in_err-arguments
unfolding name_after
name_after-returns-in_err-arguments t c = only (there _ _ (sym c.at.ensures ∙ c.if-at.true) (follows_some _ c.in_ok-expect.ensures (stops _ c.from_residual-in_err-arguments.result c.from_residual-in_err-arguments.ensures.1 (only c.in_err-arguments.ensures))))

pub name_after-returns-then-at : goal.name_after-returns-then-at
unfolding name_after
name_after-returns-then-at t c = only (there _ _ (sym c.at.ensures ∙ c.if-at.true) (follows_some _ c.in_ok-expect.ensures (follows _ (only c.in_ok-arguments.ensures) (made _ (expression_of_call _ _)))))

pub name_after-returns : goal.name_after-returns
unfolding name_after
name_after-returns t c = other _ _ (sym c.at.ensures ∙ c.if-at.false) (made _ (expression_of_name _))

pub primary-returns-then-at_number : goal.primary-returns-then-at_number
primary-returns-then-at_number t c = same_some _ (primary_as _) (passed _ _ (sym c.at_number.ensures ∙ c.if-at_number.true) c.pass_number.ensures (made _ (expression_of_number _)))

pub primary-returns-then-at_character : goal.primary-returns-then-at_character
primary-returns-then-at_character t c = same_some _ (primary_as _) (other_some _ _ (sym c.at_number.ensures ∙ c.if-at_number.false) (passed _ _ (sym c.at_character.ensures ∙ c.if-at_character.true) c.pass_character.ensures (made _ (expression_of_char _))))

pub primary-returns-in_err-name : goal.primary-returns-in_err-name
primary-returns-in_err-name t c = same_some _ (primary_as _) (other_some _ _ (sym c.at_number.ensures ∙ c.if-at_number.false) (other_some _ _ (sym c.at_character.ensures ∙ c.if-at_character.false) (there _ _ (sym c.at_name.ensures ∙ c.if-at_name.true) (stops_some _ c.from_residual.result c.from_residual.ensures.1 (only c.in_err-name.ensures)))))

pub primary-returns-then-at_name : goal.primary-returns-then-at_name
primary-returns-then-at_name t c = same_some _ (primary_as _) (other_some _ _ (sym c.at_number.ensures ∙ c.if-at_number.false) (other_some _ _ (sym c.at_character.ensures ∙ c.if-at_character.false) (there _ _ (sym c.at_name.ensures ∙ c.if-at_name.true) (follows_some _ c.in_ok-name.ensures (ended c.name_after.ensures)))))

pub primary-returns-in_err-limit : goal.primary-returns-in_err-limit
primary-returns-in_err-limit t c = same_some _ (primary_as _) (other_some _ _ (sym c.at_number.ensures ∙ c.if-at_number.false) (other_some _ _ (sym c.at_character.ensures ∙ c.if-at_character.false) (other_some _ _ (sym c.at_name.ensures ∙ c.if-at_name.false) (passed _ _ (sym c.at_word.ensures ∙ c.if-at_word.true) c.pass_word.ensures (stops _ c.from_residual-in_err-limit.result c.from_residual-in_err-limit.ensures.1 (only c.in_err-limit.ensures))))))

pub primary-returns-in_err-new : goal.primary-returns-in_err-new
primary-returns-in_err-new t c = same_some _ (primary_as _) (other_some _ _ (sym c.at_number.ensures ∙ c.if-at_number.false) (other_some _ _ (sym c.at_character.ensures ∙ c.if-at_character.false) (other_some _ _ (sym c.at_name.ensures ∙ c.if-at_name.false) (passed _ _ (sym c.at_word.ensures ∙ c.if-at_word.true) c.pass_word.ensures (follows _ (only c.in_ok-limit.ensures) (memory _ _ _ c.from_residual-in_err-new.result c.from_residual-in_err-new.ensures.1 (omega arith)))))))

pub primary-returns-then-at_word : goal.primary-returns-then-at_word
primary-returns-then-at_word t c = same_some _ (primary_as _) (other_some _ _ (sym c.at_number.ensures ∙ c.if-at_number.false) (other_some _ _ (sym c.at_character.ensures ∙ c.if-at_character.false) (other_some _ _ (sym c.at_name.ensures ∙ c.if-at_name.false) (passed _ _ (sym c.at_word.ensures ∙ c.if-at_word.true) c.pass_word.ensures (follows _ (only c.in_ok-limit.ensures) (made _ (expression_of_random _ ∙ ap (λ (x : Expr). v.Random (expression_of x)) c.in_ok-new.ensures.ok)))))))

pub primary-returns : goal.primary-returns
primary-returns t c = same_some _ (primary_as _) (other_some _ _ (sym c.at_number.ensures ∙ c.if-at_number.false) (other_some _ _ (sym c.at_character.ensures ∙ c.if-at_character.false) (other_some _ _ (sym c.at_name.ensures ∙ c.if-at_name.false) (other_some _ _ (sym c.at_word.ensures ∙ c.if-at_word.false) c.value_in_brackets-2.ensures))))

pub product-returns-in_err-first : goal.product-returns-in_err-first
product-returns-in_err-first t c = same_some _ (product_as _) (stops_some _ c.from_residual.result c.from_residual.ensures.1 (only c.in_err-first.ensures))

pub product-returns : goal.product-returns
product-returns t c = same_some _ (product_as _) (follows_some _ c.in_ok-first.ensures (ended c.factors_after.ensures))

pub value-returns-in_err-first : goal.value-returns-in_err-first
value-returns-in_err-first t c = same_some _ (value_as _) (stops_some _ c.from_residual.result c.from_residual.ensures.1 (only c.in_err-first.ensures))

pub value-returns : goal.value-returns
value-returns t c = same_some _ (value_as _) (follows_some _ c.in_ok-first.ensures (ended c.terms_after.ensures))

pub unary-returns-in_err-name : goal.unary-returns-in_err-name
unary-returns-in_err-name t c = same_some _ (unary_as _) (there _ _ (sym c.at_name.ensures ∙ c.if-at_name.true) (stops_some _ c.from_residual.result c.from_residual.ensures.1 (only c.in_err-name.ensures)))

pub unary-returns-then-at_name : goal.unary-returns-then-at_name
unary-returns-then-at_name t c = same_some _ (unary_as _) (there _ _ (sym c.at_name.ensures ∙ c.if-at_name.true) (follows_some _ c.in_ok-name.ensures (ended c.entry_after.ensures)))

pub unary-returns-in_err-operand : goal.unary-returns-in_err-operand
unary-returns-in_err-operand t c = same_some _ (unary_as _) (other_some _ _ (sym c.at_name.ensures ∙ c.if-at_name.false) (passed _ _ (sym c.at.ensures ∙ c.if-at.true) c.pass.ensures (stops _ c.from_residual-in_err-operand.result c.from_residual-in_err-operand.ensures.1 (only c.in_err-operand.ensures))))

pub unary-returns-in_err-new : goal.unary-returns-in_err-new
unary-returns-in_err-new t c = same_some _ (unary_as _) (other_some _ _ (sym c.at_name.ensures ∙ c.if-at_name.false) (passed _ _ (sym c.at.ensures ∙ c.if-at.true) c.pass.ensures (follows _ (only c.in_ok-operand.ensures) (memory _ _ _ c.from_residual-in_err-new.result c.from_residual-in_err-new.ensures.1 (omega arith)))))

pub unary-returns-then-at : goal.unary-returns-then-at
unary-returns-then-at t c = same_some _ (unary_as _) (other_some _ _ (sym c.at_name.ensures ∙ c.if-at_name.false) (passed _ _ (sym c.at.ensures ∙ c.if-at.true) c.pass.ensures (follows _ (only c.in_ok-operand.ensures) (made _ (expression_of_neg _ ∙ ap (λ (x : Expr). v.Neg (expression_of x)) c.in_ok-new.ensures.ok)))))

pub unary-returns : goal.unary-returns
unary-returns t c = same_some _ (unary_as _) (other_some _ _ (sym c.at_name.ensures ∙ c.if-at_name.false) (other_some _ _ (sym c.at.ensures ∙ c.if-at.false) c.primary-2.ensures))

pub value_in_brackets-returns-in_err-expect : goal.value_in_brackets-returns-in_err-expect
unfolding value_in_brackets
value_in_brackets-returns-in_err-expect t c = stops_some _ c.from_residual.result c.from_residual.ensures.1 (only c.in_err-expect.ensures)

pub value_in_brackets-returns-in_err-value : goal.value_in_brackets-returns-in_err-value
unfolding value_in_brackets
value_in_brackets-returns-in_err-value t c = follows_some _ c.in_ok-expect.ensures (stops _ c.from_residual-in_err-value.result c.from_residual-in_err-value.ensures.1 (only c.in_err-value.ensures))

pub value_in_brackets-returns-in_err-expect-2 : goal.value_in_brackets-returns-in_err-expect-2
unfolding value_in_brackets
value_in_brackets-returns-in_err-expect-2 t c = follows_some _ c.in_ok-expect.ensures (follows _ (only c.in_ok-value.ensures) (stops _ c.from_residual-in_err-expect-2.result c.from_residual-in_err-expect-2.ensures.1 (only c.in_err-expect-2.ensures)))

pub value_in_brackets-returns : goal.value_in_brackets-returns
unfolding value_in_brackets
value_in_brackets-returns t c = follows_some _ c.in_ok-expect.ensures (follows _ (only c.in_ok-value.ensures) (follows _ (only c.in_ok-expect-2.ensures) (made _ refl)))

pub factors-loop-alloc-preserved : goal.factors-loop-alloc-preserved
factors-loop-alloc-preserved t c =
    let l = c.loop-alloc in
    let one = factor_read c.in_ok-sign.ensures c.in_ok-factor.ensures in (
      goes_on r.Factor factor_of l.factors.items c.push.new.self.items (c.in_ok-sign.sign, c.in_ok-factor.factor) l.self c.unary.new.self _
          (factor_more (map factor_of l.factors.items) l.self (sym c.at_factor.ensures ∙ c.loop-alloc-test.true)) c.in_ok-push.ensures.items
          one.gives l.invariant.0,
      omega arith,
    )

pub factors-returns-in_err-sign : goal.factors-returns-in_err-sign
factors-returns-in_err-sign t c = resumed c.loop-alloc.invariant.0 c.loop-alloc.invariant.1 (same _ (factor_more _ _ (sym c.at_factor.ensures ∙ c.loop-alloc-test.true)) (stops _ c.from_residual.result c.from_residual.ensures.1 (only (factor_sign_stops c.in_err-sign.ensures))))

pub factors-returns-in_err-factor : goal.factors-returns-in_err-factor
factors-returns-in_err-factor t c = resumed c.loop-alloc.invariant.0 c.loop-alloc.invariant.1 (same _ (factor_more _ _ (sym c.at_factor.ensures ∙ c.loop-alloc-test.true)) (stops _ c.from_residual-in_err-factor.result c.from_residual-in_err-factor.ensures.1 (only (factor_stops c.in_ok-sign.ensures c.in_err-factor.ensures))))

pub factors-returns-in_err-push : goal.factors-returns-in_err-push
factors-returns-in_err-push t c = memory _ _ _ c.from_residual-in_err-push.result c.from_residual-in_err-push.ensures.1 (omega arith)

pub factors-returns : goal.factors-returns
factors-returns t c = resumed c.loop-alloc.invariant.0 c.loop-alloc.invariant.1 (known (factor_last _ _ (sym c.at_factor.ensures ∙ c.loop-alloc-test.false)) refl)

pub terms-loop-alloc-preserved : goal.terms-loop-alloc-preserved
terms-loop-alloc-preserved t c =
    let l = c.loop-alloc in
    let one = term_read c.in_ok-sign.ensures c.in_ok-term.ensures in (
      goes_on r.Term term_of l.terms.items c.push.new.self.items (c.in_ok-sign.sign, c.in_ok-term.term) l.self c.product.new.self _
          (term_more (map term_of l.terms.items) l.self (sym c.at_term.ensures ∙ c.loop-alloc-test.true)) c.in_ok-push.ensures.items
          one.gives l.invariant.0,
      omega arith,
    )

pub terms-returns-in_err-sign : goal.terms-returns-in_err-sign
terms-returns-in_err-sign t c = resumed c.loop-alloc.invariant.0 c.loop-alloc.invariant.1 (same _ (term_more _ _ (sym c.at_term.ensures ∙ c.loop-alloc-test.true)) (stops _ c.from_residual.result c.from_residual.ensures.1 (only (term_sign_stops c.in_err-sign.ensures))))

pub terms-returns-in_err-term : goal.terms-returns-in_err-term
terms-returns-in_err-term t c = resumed c.loop-alloc.invariant.0 c.loop-alloc.invariant.1 (same _ (term_more _ _ (sym c.at_term.ensures ∙ c.loop-alloc-test.true)) (stops _ c.from_residual-in_err-term.result c.from_residual-in_err-term.ensures.1 (only (term_stops c.in_ok-sign.ensures c.in_err-term.ensures))))

pub terms-returns-in_err-push : goal.terms-returns-in_err-push
terms-returns-in_err-push t c = memory _ _ _ c.from_residual-in_err-push.result c.from_residual-in_err-push.ensures.1 (omega arith)

pub terms-returns : goal.terms-returns
terms-returns t c = resumed c.loop-alloc.invariant.0 c.loop-alloc.invariant.1 (known (term_last _ _ (sym c.at_term.ensures ∙ c.loop-alloc-test.false)) refl)

pub further_arguments-loop-alloc-preserved : goal.further_arguments-loop-alloc-preserved
further_arguments-loop-alloc-preserved t c =
    let l = c.loop-alloc in
    let one = argument_read (sym c.at.ensures ∙ c.loop-alloc-test.true) c.pass.ensures c.in_ok-argument.ensures in (
      goes_on r.Argument expression_of l.arguments.items c.push-in-loop-alloc.new.self.items c.in_ok-argument.argument l.self c.value.new.self _
          (argument_more (map expression_of l.arguments.items) l.self (sym c.at.ensures ∙ c.loop-alloc-test.true)) c.in_ok-push-2.ensures.items
          one.gives l.invariant.0,
      omega arith,
    )

pub further_arguments-returns-in_err-arguments : goal.further_arguments-returns-in_err-arguments
further_arguments-returns-in_err-arguments t c = memory _ _ _ c.from_residual.result c.from_residual.ensures.1 (omega arith)

pub further_arguments-returns-in_err-push : goal.further_arguments-returns-in_err-push
further_arguments-returns-in_err-push t c = memory _ _ _ c.from_residual-in_err-push.result c.from_residual-in_err-push.ensures.1 (omega arith)

pub further_arguments-returns-in_err-push-2 : goal.further_arguments-returns-in_err-push-2
further_arguments-returns-in_err-push-2 t c = memory _ _ _ c.from_residual-in_err-push-2.result c.from_residual-in_err-push-2.ensures.1 (omega arith)

pub further_arguments-returns-in_err-argument : goal.further_arguments-returns-in_err-argument
further_arguments-returns-in_err-argument t c = resumed c.loop-alloc.invariant.0 c.loop-alloc.invariant.1 (same _ (argument_more _ _ (sym c.at.ensures ∙ c.loop-alloc-test.true)) (stops _ c.from_residual-in_err-argument.result c.from_residual-in_err-argument.ensures.1 (only (argument_read (sym c.at.ensures ∙ c.loop-alloc-test.true) c.pass.ensures c.in_err-argument.ensures))))

pub arguments-returns-in_err-expect : goal.arguments-returns-in_err-expect
arguments-returns-in_err-expect t c = same_some _ (arguments_as _) (there _ _ (sym c.at.ensures ∙ c.if-at.true) (stops_some _ c.from_residual.result c.from_residual.ensures.1 (only c.in_err-expect.ensures)))

pub arguments-returns-in_err-first : goal.arguments-returns-in_err-first
arguments-returns-in_err-first t c = same_some _ (arguments_as _) (other_some _ _ (sym c.at.ensures ∙ c.if-at.false) (stops_some _ c.from_residual-in_err-first.result c.from_residual-in_err-first.ensures.1 (only c.in_err-first.ensures)))

pub arguments-returns-in_err-arguments : goal.arguments-returns-in_err-arguments
arguments-returns-in_err-arguments t c = same_some _ (arguments_as _) (other_some _ _ (sym c.at.ensures ∙ c.if-at.false) (follows_some _ c.in_ok-first.ensures (stops _ c.from_residual-in_err-arguments.result c.from_residual-in_err-arguments.ensures.1 c.in_err-arguments.ensures)))

pub arguments-returns-in_err-expect-2 : goal.arguments-returns-in_err-expect-2
arguments-returns-in_err-expect-2 t c = same_some _ (arguments_as _) (other_some _ _ (sym c.at.ensures ∙ c.if-at.false) (follows_some _ c.in_ok-first.ensures (follows _ c.in_ok-arguments.ensures (stops _ c.from_residual-in_err-expect-2.result c.from_residual-in_err-expect-2.ensures.1 (only c.in_err-expect-2.ensures)))))

pub arguments-returns : goal.arguments-returns
arguments-returns t c = same_some _ (arguments_as _) (other_some _ _ (sym c.at.ensures ∙ c.if-at.false) (follows_some _ c.in_ok-first.ensures (follows _ c.in_ok-arguments.ensures (follows _ (only c.in_ok-expect-2.ensures) (made _ refl)))))

pub factors_after-returns-then-not-at_factor : goal.factors_after-returns-then-not-at_factor
factors_after-returns-then-not-at_factor t c = known (factor_alone _ _ (sym c.at_factor.ensures ∙ c.if-not-at_factor.true)) refl

pub factors_after-returns-then-is_empty : goal.factors_after-returns-then-is_empty
unfolding factors_after
factors_after-returns-then-is_empty t c = follows _ c.in_ok-factors.ensures (made _ (grind (arith, product_alone)))

pub factors_after-returns-in_err-new : goal.factors_after-returns-in_err-new
unfolding factors_after
factors_after-returns-in_err-new t c = follows _ c.in_ok-factors.ensures (memory _ _ _ c.from_residual-in_err-new.result c.from_residual-in_err-new.ensures.1 (omega arith))

pub factors_after-returns : goal.factors_after-returns
unfolding factors_after
factors_after-returns t c = follows _ c.in_ok-factors.ensures (made _ (grind (arith, product_chain)))

pub terms_after-returns-then-not-at_term : goal.terms_after-returns-then-not-at_term
terms_after-returns-then-not-at_term t c = known (term_alone _ _ (sym c.at_term.ensures ∙ c.if-not-at_term.true)) refl

pub terms_after-returns-then-is_empty : goal.terms_after-returns-then-is_empty
unfolding terms_after
terms_after-returns-then-is_empty t c = follows _ c.in_ok-terms.ensures (made _ (grind (arith, sum_alone)))

pub terms_after-returns-in_err-new : goal.terms_after-returns-in_err-new
unfolding terms_after
terms_after-returns-in_err-new t c = follows _ c.in_ok-terms.ensures (memory _ _ _ c.from_residual-in_err-new.result c.from_residual-in_err-new.ensures.1 (omega arith))

pub terms_after-returns : goal.terms_after-returns
unfolding terms_after
terms_after-returns t c = follows _ c.in_ok-terms.ensures (made _ (grind (arith, sum_chain)))

pub entry_after-returns-then-at_arrow : goal.entry_after-returns-then-at_arrow
entry_after-returns-then-at_arrow t c = same _ (entry_after_arrow _ _ (sym c.at_arrow.ensures ∙ c.if-at_arrow.true)) (follows _ (only c.in_ok-words.ensures) (follows _ (only c.in_ok-index.ensures) (made _ (grind (arith, expression_of_entry)))))

pub arguments-returns-then-at : goal.arguments-returns-then-at
arguments-returns-then-at t c = same_some _ (arguments_as _) (there _ _ (sym c.at.ensures ∙ c.if-at.true) (follows_some _ c.in_ok-expect.ensures (made _ (ap (map expression_of) c.new.ensures.items))))

pub further_arguments-returns : goal.further_arguments-returns
further_arguments-returns t c = resumed c.loop-alloc.invariant.0 c.loop-alloc.invariant.1 (known (argument_last _ _ (sym c.at.ensures ∙ c.loop-alloc-test.false)) (ap (map expression_of) c.shrink_to_fit.ensures.items))
