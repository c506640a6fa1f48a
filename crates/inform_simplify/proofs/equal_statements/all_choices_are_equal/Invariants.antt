use Rattle.inform_simplify.proofs.Compared.{Along}
use Rattle.inform_simplify.proofs.equal_statements.all_choices_are_equal.Given as goal

abbrev pub invariant-loop-i : goal.invariant-loop-i
invariant-loop-i l = Along (λ x. x) l.xs.items l.ys.items l.i
