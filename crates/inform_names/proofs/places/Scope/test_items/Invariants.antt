use Rattle.std.proofs.Common.{◌≡◌, drop, map}
use Rattle.inform_tree.specs.Statements.{print_item_of}
use Rattle.inform_names.specs.Demands.{items_demands}
use Rattle.inform_names.specs.Places.{first_fault}
use Rattle.inform_names.specs.Scopes.{scope_of}
use Rattle.inform_names.proofs.places.Scope.test_items.Given as goal

abbrev pub invariant-loop-item : goal.invariant-loop-item
invariant-loop-item l = first_fault (scope_of l.self) (items_demands (map print_item_of l.items))
    ≡ first_fault (scope_of l.self) (items_demands (map print_item_of (drop l.item-index l.items)))
