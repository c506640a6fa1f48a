use Rattle.std.proofs.Common.{◌≡◌, drop}
use Rattle.inform_tree.specs.Conditions.{conditions_of}
use Rattle.inform_names.specs.Demands.{conditions_demands}
use Rattle.inform_names.specs.Places.{first_fault}
use Rattle.inform_names.specs.Scopes.{scope_of}
use Rattle.inform_names.proofs.places.Scope.+conditions.Given as goal

abbrev pub invariant-test_conditions-loop-condition : goal.invariant-test_conditions-loop-condition
invariant-test_conditions-loop-condition l = first_fault (scope_of l.self)
    (conditions_demands (conditions_of l.condition-items))
    ≡ first_fault (scope_of l.self) (conditions_demands
    (conditions_of (drop l.condition-index l.condition-items)))
