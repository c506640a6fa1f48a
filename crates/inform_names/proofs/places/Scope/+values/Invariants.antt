use Rattle.std.proofs.Common.{◌≡◌, drop}
use Rattle.inform_tree.specs.Values.{arguments_of, terms_of, factors_of}
use Rattle.inform_names.specs.Demands.{arguments_demands, terms_demands, factors_demands}
use Rattle.inform_names.specs.Places.{first_fault}
use Rattle.inform_names.specs.Scopes.{scope_of}
use Rattle.inform_names.proofs.places.Scope.+values.Given as goal

abbrev pub invariant-test_expressions-loop-value : goal.invariant-test_expressions-loop-value
invariant-test_expressions-loop-value l = first_fault (scope_of l.self)
    (arguments_demands (arguments_of l.value-items))
    ≡ first_fault (scope_of l.self) (arguments_demands
    (arguments_of (drop l.value-index l.value-items)))

abbrev pub invariant-test_terms-loop-term : goal.invariant-test_terms-loop-term
invariant-test_terms-loop-term l = first_fault (scope_of l.self)
    (terms_demands (terms_of l.term-items)) ≡ first_fault (scope_of l.self)
    (terms_demands (terms_of (drop l.term-index l.term-items)))

abbrev pub invariant-test_factors-loop-factor : goal.invariant-test_factors-loop-factor
invariant-test_factors-loop-factor l = first_fault (scope_of l.self)
    (factors_demands (factors_of l.factor-items))
    ≡ first_fault (scope_of l.self) (factors_demands
    (factors_of (drop l.factor-index l.factor-items)))
