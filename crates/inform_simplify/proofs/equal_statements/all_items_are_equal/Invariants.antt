use Rattle.inform_tree.specs.Statements.{print_item_of}
use Rattle.inform_simplify.proofs.Compared.{Along}
use Rattle.inform_simplify.proofs.equal_statements.all_items_are_equal.Given as goal

abbrev pub invariant-loop-i : goal.invariant-loop-i
invariant-loop-i l = Along print_item_of l.xs.items l.ys.items l.i
