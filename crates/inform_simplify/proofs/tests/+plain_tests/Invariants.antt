use Rattle.std.proofs.Common.{◌≡◌, drop}
use Rattle.inform_tree.specs.Conditions.{conditions_of}
use Rattle.inform_simplify.specs.Tests.{are_plain_tests}
use Rattle.inform_simplify.proofs.tests.+plain_tests.Given as goal

abbrev pub invariant-are_plain_tests-loop-test : goal.invariant-are_plain_tests-loop-test
invariant-are_plain_tests-loop-test l = are_plain_tests (conditions_of l.test-items) ≡ are_plain_tests (conditions_of (drop l.test-index l.test-items))
