use Rattle.std.proofs.Common.{◌≡◌, max, drop}
use Rattle.inform_tree.specs.Conditions.{conditions_of}
use Rattle.inform_tree.specs.Depths.{conditions_depth, counted}
use Rattle.inform_tree.proofs.condition_depths.+condition_depths.Given as goal

abbrev pub invariant-depth_of_conditions-loop-condition : goal.invariant-depth_of_conditions-loop-condition
invariant-depth_of_conditions-loop-condition l = counted (conditions_depth (conditions_of l.condition-items)) ≡ max l.deepest (counted (conditions_depth (conditions_of (drop l.condition-index l.condition-items))))
