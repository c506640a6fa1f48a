use Rattle.std.proofs.Common.{◌≡◌, drop}
use Rattle.inform_tree.specs.Statements.{statements_of, cases_of}
use Rattle.inform_names.specs.Demands.{statements_demands, cases_demands}
use Rattle.inform_names.specs.Places.{first_fault}
use Rattle.inform_names.specs.Scopes.{scope_of}
use Rattle.inform_names.proofs.places.Scope.+statements.Given as goal

abbrev pub invariant-test_statements-loop-statement : goal.invariant-test_statements-loop-statement
invariant-test_statements-loop-statement l = first_fault (scope_of l.self)
    (statements_demands l.round (statements_of l.statement-items))
    ≡ first_fault (scope_of l.self) (statements_demands l.round
    (statements_of (drop l.statement-index l.statement-items)))

abbrev pub invariant-test_cases-loop-case : goal.invariant-test_cases-loop-case
invariant-test_cases-loop-case l = first_fault (scope_of l.self)
    (cases_demands l.round (cases_of l.case-items))
    ≡ first_fault (scope_of l.self) (cases_demands l.round
    (cases_of (drop l.case-index l.case-items)))
