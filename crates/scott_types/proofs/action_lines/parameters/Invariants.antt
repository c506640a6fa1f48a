use Rattle.std.proofs.Common.{◌≡◌, ◌≤◌, map, take, length}
use Rattle.std.specs.Prelude.{filter}
use Rattle.scott_types.specs.Action.{argument_of, condition_code, is_zero}
use Rattle.scott_types.proofs.action_lines.parameters.Given as goal

-- the parameters so far are those of the conditions so far
abbrev pub invariant-loop-packed : goal.invariant-loop-packed
invariant-loop-packed l = record {
  arguments : l.arguments.items ≡ map argument_of (filter (λ c. is_zero (condition_code c)) (take l.packed-index l.action.conds));
  few : length l.arguments.items ≤ l.packed-index;
}
