use Rattle.std.proofs.Common.{◌≡◌, max, drop}
use Rattle.std.specs.Prelude.{map}
use Rattle.inform_tree.specs.Statements.{print_item_of}
use Rattle.inform_tree.specs.Depths.{items_depth, counted}
use Rattle.inform_tree.proofs.statement_depths.depth_of_items.Given as goal

abbrev pub invariant-loop-item : goal.invariant-loop-item
invariant-loop-item l = counted (items_depth (map print_item_of l.item-items)) ≡ max l.deepest (counted (items_depth (map print_item_of (drop l.item-index l.item-items))))
