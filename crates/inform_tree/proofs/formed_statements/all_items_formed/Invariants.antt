use Rattle.std.proofs.Common.{◌≡◌, drop}
use Rattle.std.specs.Prelude.{map}
use Rattle.std.specs.List.{list_all}
use Rattle.inform_tree.specs.Statements.{print_item_of}
use Rattle.inform_tree.specs.Formed.{is_formed_item}
use Rattle.inform_tree.proofs.formed_statements.all_items_formed.Given as goal

abbrev pub invariant-loop-item : goal.invariant-loop-item
invariant-loop-item l = list_all is_formed_item (map print_item_of l.items) ≡ list_all is_formed_item (map print_item_of (drop l.item-index l.items))
