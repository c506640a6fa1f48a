use Rattle.std.proofs.Common.{◌≡◌, drop}
use Rattle.inform_tree.specs.Conditions.{conditions_of}
use Rattle.inform_tree.specs.Formed.{are_formed_conditions}
use Rattle.inform_tree.proofs.formed_conditions.+formed_conditions.Given as goal

abbrev pub invariant-conditions_are_formed-loop-condition : goal.invariant-conditions_are_formed-loop-condition
invariant-conditions_are_formed-loop-condition l = are_formed_conditions (conditions_of l.condition-items) ≡ are_formed_conditions (conditions_of (drop l.condition-index l.condition-items))
