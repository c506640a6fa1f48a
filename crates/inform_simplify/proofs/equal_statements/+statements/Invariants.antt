use Rattle.inform_tree.specs.Statements.{statement_of, case_of}
use Rattle.inform_simplify.proofs.Compared.{Along}
use Rattle.inform_simplify.proofs.equal_statements.+statements.Given as goal

abbrev pub invariant-statements_are_equal-loop-i : goal.invariant-statements_are_equal-loop-i
invariant-statements_are_equal-loop-i l = Along statement_of l.xs.items l.ys.items l.i

abbrev pub invariant-cases_are_equal-loop-i : goal.invariant-cases_are_equal-loop-i
invariant-cases_are_equal-loop-i l = Along case_of l.xs.items l.ys.items l.i
