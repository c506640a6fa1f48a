use Rattle.inform_tree.specs.Conditions.{condition_of}
use Rattle.inform_simplify.proofs.Compared.{Along}
use Rattle.inform_simplify.proofs.equal_conditions.+conditions.Given as goal

abbrev pub invariant-all_conditions_are_equal-loop-i : goal.invariant-all_conditions_are_equal-loop-i
invariant-all_conditions_are_equal-loop-i l = Along condition_of l.xs.items l.ys.items l.i
