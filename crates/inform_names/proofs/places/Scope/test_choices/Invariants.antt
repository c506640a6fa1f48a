use Rattle.std.proofs.Common.{◌≡◌, drop}
use Rattle.inform_names.specs.Demands.{choices_demands}
use Rattle.inform_names.specs.Places.{first_fault}
use Rattle.inform_names.specs.Scopes.{scope_of}
use Rattle.inform_names.proofs.places.Scope.test_choices.Given as goal

abbrev pub invariant-loop-choice : goal.invariant-loop-choice
invariant-loop-choice l = first_fault (scope_of l.self) (choices_demands l.choices)
    ≡ first_fault (scope_of l.self) (choices_demands (drop l.choice-index l.choices))
