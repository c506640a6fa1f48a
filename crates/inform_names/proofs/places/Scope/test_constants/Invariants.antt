use Rattle.std.proofs.Common.{◌≡◌, drop}
use Rattle.inform_names.specs.Demands.{constants_demands}
use Rattle.inform_names.specs.Places.{first_fault}
use Rattle.inform_names.specs.Scopes.{scope_of}
use Rattle.inform_names.proofs.places.Scope.test_constants.Given as goal

abbrev pub invariant-loop-constant : goal.invariant-loop-constant
invariant-loop-constant l = first_fault (scope_of l.self) (constants_demands l.constants)
    ≡ first_fault (scope_of l.self) (constants_demands (drop l.constant-index l.constants))
