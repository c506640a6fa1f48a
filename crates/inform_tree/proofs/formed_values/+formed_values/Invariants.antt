use Rattle.std.proofs.Common.{◌≡◌, drop}
use Rattle.inform_tree.specs.Values.{arguments_of, terms_of, factors_of}
use Rattle.inform_tree.specs.Formed.{are_formed_arguments, are_formed_terms, are_formed_factors}
use Rattle.inform_tree.proofs.formed_values.+formed_values.Given as goal

abbrev pub invariant-values_are_formed-loop-value : goal.invariant-values_are_formed-loop-value
invariant-values_are_formed-loop-value l = are_formed_arguments (arguments_of l.value-items) ≡ are_formed_arguments (arguments_of (drop l.value-index l.value-items))

abbrev pub invariant-terms_are_formed-loop-term : goal.invariant-terms_are_formed-loop-term
invariant-terms_are_formed-loop-term l = are_formed_terms (terms_of l.term-items) ≡ are_formed_terms (terms_of (drop l.term-index l.term-items))

abbrev pub invariant-factors_are_formed-loop-factor : goal.invariant-factors_are_formed-loop-factor
invariant-factors_are_formed-loop-factor l = are_formed_factors (factors_of l.factor-items) ≡ are_formed_factors (factors_of (drop l.factor-index l.factor-items))
