use Rattle.std.proofs.Common.{◌≡◌, max, drop}
use Rattle.inform_tree.specs.Values.{arguments_of, terms_of, factors_of}
use Rattle.inform_tree.specs.Depths.{arguments_depth, terms_depth, factors_depth, counted}
use Rattle.inform_tree.proofs.value_depths.+value_depths.Given as goal

abbrev pub invariant-depth_of_values-loop-value : goal.invariant-depth_of_values-loop-value
invariant-depth_of_values-loop-value l = counted (arguments_depth (arguments_of l.value-items)) ≡ max l.deepest (counted (arguments_depth (arguments_of (drop l.value-index l.value-items))))

abbrev pub invariant-depth_of_terms-loop-term : goal.invariant-depth_of_terms-loop-term
invariant-depth_of_terms-loop-term l = counted (terms_depth (terms_of l.term-items)) ≡ max l.deepest (counted (terms_depth (terms_of (drop l.term-index l.term-items))))

abbrev pub invariant-depth_of_factors-loop-factor : goal.invariant-depth_of_factors-loop-factor
invariant-depth_of_factors-loop-factor l = counted (factors_depth (factors_of l.factor-items)) ≡ max l.deepest (counted (factors_depth (factors_of (drop l.factor-index l.factor-items))))
