use Rattle.std.proofs.Common.{arith}
use Rattle.inform_tree.specs.Conditions.{condition_of}
use Rattle.inform_simplify.proofs.Compared.{unlike_long, unlike_at, conditions_apart}
use Rattle.inform_simplify.proofs.equal_conditions.+conditions.Goals as goal

pub all_conditions_are_equal-returns-then-len : goal.all_conditions_are_equal-returns-then-len
all_conditions_are_equal-returns-then-len t c = unlike_long condition_of c.args.xs.now.items c.args.ys.now.items (conditions_apart _ _) (λ e. c.if-len.true (omega (arith, c.args.xs.now.ok.0, c.args.ys.now.ok.0)))

pub all_conditions_are_equal-returns-then-not-conditions_are_equal : goal.all_conditions_are_equal-returns-then-not-conditions_are_equal
all_conditions_are_equal-returns-then-not-conditions_are_equal t c = unlike_at condition_of c.args.xs.now.items c.args.ys.now.items _ c.loop-i.i _ _ (conditions_apart _ _) c.deref-x-items.ensures.value (omega (arith, c.args.xs.now.ok.0)) c.x-item.is c.index.ensures c.if-not-conditions_are_equal.ensures.1
