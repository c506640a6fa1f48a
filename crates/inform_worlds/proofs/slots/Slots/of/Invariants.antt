use Rattle.std.proofs.Common.{◌≡◌}
use Rattle.inform_worlds.proofs.slots.Slots.of.Given as goal

abbrev pub invariant-loop-directive : goal.invariant-loop-directive
invariant-loop-directive l = l.slots.accepted.now ≡ l.names.accepted.now
