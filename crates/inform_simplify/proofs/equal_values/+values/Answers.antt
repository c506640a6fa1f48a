use Rattle.std.proofs.Common.{refl, ap, arith}
use Rattle.inform_tree.specs.declared.values.SumOp.{SumOp}
use Rattle.inform_tree.specs.declared.values.ProdOp.{ProdOp}
use Rattle.inform_tree.specs.Values.{Expression, expression_of}
use Rattle.inform_simplify.proofs.Compared.{unlike_long, unlike_at, arguments_apart, terms_apart, factors_apart, sums_alike, products_alike}
use Rattle.inform_simplify.proofs.equal_values.+values.Goals as goal

pub all_values_are_equal-returns-then-len : goal.all_values_are_equal-returns-then-len
all_values_are_equal-returns-then-len t c = unlike_long expression_of c.args.xs.now.items c.args.ys.now.items (arguments_apart _ _) (λ e. c.if-len.true (omega (arith, c.args.xs.now.ok.0, c.args.ys.now.ok.0)))

pub all_values_are_equal-returns-then-not-values_are_equal :
    goal.all_values_are_equal-returns-then-not-values_are_equal
all_values_are_equal-returns-then-not-values_are_equal t c = unlike_at expression_of c.args.xs.now.items c.args.ys.now.items _ c.loop-i.i _ _ (arguments_apart _ _) c.deref-x-items.ensures.value (omega (arith, c.args.xs.now.ok.0)) c.x-item.is c.index.ensures c.if-not-values_are_equal.ensures.1

pub terms_are_equal-returns-then-len : goal.terms_are_equal-returns-then-len
terms_are_equal-returns-then-len t c = unlike_long {B = SumOp × Expression} (λ x. (x.0, expression_of x.1)) c.args.xs.now.items c.args.ys.now.items (terms_apart _ _) (λ e. c.if-len.true (omega (arith, c.args.xs.now.ok.0, c.args.ys.now.ok.0)))

pub terms_are_equal-returns-then-not-term_is_equal : goal.terms_are_equal-returns-then-not-term_is_equal
terms_are_equal-returns-then-not-term_is_equal t c = unlike_at {B = SumOp × Expression} (λ x. (x.0, expression_of x.1)) c.args.xs.now.items c.args.ys.now.items _ c.loop-i.i _ _ (terms_apart _ _) c.deref-x-items.ensures.value (omega (arith, c.args.xs.now.ok.0)) c.x-item.is c.index-y.ensures (λ e. c.if-not-term_is_equal.ensures.1 (ap (λ p. p.0) e, ap (λ p. p.1) e))

pub factors_are_equal-returns-then-len : goal.factors_are_equal-returns-then-len
factors_are_equal-returns-then-len t c = unlike_long {B = ProdOp × Expression} (λ x. (x.0, expression_of x.1)) c.args.xs.now.items c.args.ys.now.items (factors_apart _ _) (λ e. c.if-len.true (omega (arith, c.args.xs.now.ok.0, c.args.ys.now.ok.0)))

pub factors_are_equal-returns-then-not-factor_is_equal : goal.factors_are_equal-returns-then-not-factor_is_equal
factors_are_equal-returns-then-not-factor_is_equal t c = unlike_at {B = ProdOp × Expression} (λ x. (x.0, expression_of x.1)) c.args.xs.now.items c.args.ys.now.items _ c.loop-i.i _ _ (factors_apart _ _) c.deref-x-items.ensures.value (omega (arith, c.args.xs.now.ok.0)) c.x-item.is c.index-y.ensures (λ e. c.if-not-factor_is_equal.ensures.1 (ap (λ p. p.0) e, ap (λ p. p.1) e))

pub values_are_equal-returns-then-values_are_equal :
    goal.values_are_equal-returns-then-values_are_equal
values_are_equal-returns-then-values_are_equal t c = sums_alike _ _ _ _ _ _ _ _ _ c.in-Sum-Sum.is-0 c.in-Sum-Sum.is-1 c.deref-in-Sum-Sum.ensures c.deref-in-Sum-Sum-2.ensures (c.if-values_are_equal.ensures.0 refl) c.terms_are_equal.ensures

pub values_are_equal-returns-then-values_are_equal-2 :
    goal.values_are_equal-returns-then-values_are_equal-2
values_are_equal-returns-then-values_are_equal-2 t c = products_alike _ _ _ _ _ _ _ _ _ c.in-Product-Product.is-0 c.in-Product-Product.is-1 c.deref-in-Product-Product.ensures c.deref-in-Product-Product-2.ensures (c.if-values_are_equal-2.ensures.0 refl) c.factors_are_equal.ensures
