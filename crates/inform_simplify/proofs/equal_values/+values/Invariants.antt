use Rattle.inform_tree.specs.declared.values.SumOp.{SumOp}
use Rattle.inform_tree.specs.declared.values.ProdOp.{ProdOp}
use Rattle.inform_tree.specs.Values.{Expression, expression_of}
use Rattle.inform_simplify.proofs.Compared.{Along}
use Rattle.inform_simplify.proofs.equal_values.+values.Given as goal

abbrev pub invariant-all_values_are_equal-loop-i : goal.invariant-all_values_are_equal-loop-i
invariant-all_values_are_equal-loop-i l = Along expression_of l.xs.items l.ys.items l.i

abbrev pub invariant-terms_are_equal-loop-i : goal.invariant-terms_are_equal-loop-i
invariant-terms_are_equal-loop-i l = Along {B = SumOp × Expression} (λ x. (x.0, expression_of x.1)) l.xs.items l.ys.items l.i

abbrev pub invariant-factors_are_equal-loop-i : goal.invariant-factors_are_equal-loop-i
invariant-factors_are_equal-loop-i l = Along {B = ProdOp × Expression} (λ x. (x.0, expression_of x.1)) l.xs.items l.ys.items l.i
