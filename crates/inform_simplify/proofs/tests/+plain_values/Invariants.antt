use Rattle.std.proofs.Common.{◌≡◌, drop}
use Rattle.inform_tree.specs.Values.{terms_of, factors_of}
use Rattle.inform_simplify.specs.Tests.{are_plain_terms, are_plain_factors}
use Rattle.inform_simplify.proofs.tests.+plain_values.Given as goal

abbrev pub invariant-are_plain_terms-loop-term : goal.invariant-are_plain_terms-loop-term
invariant-are_plain_terms-loop-term l = are_plain_terms (terms_of l.term-items) ≡ are_plain_terms (terms_of (drop l.term-index l.term-items))

abbrev pub invariant-are_plain_factors-loop-op : goal.invariant-are_plain_factors-loop-op
invariant-are_plain_factors-loop-op l = are_plain_factors (factors_of l.op-items) ≡ are_plain_factors (factors_of (drop l.op-index l.op-items))
