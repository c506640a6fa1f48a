use Rattle.std.proofs.Common.{◌≡◌}
use Rattle.scott_turn.specs.Heads.{groups_for}
use Rattle.scott_turn.proofs.heads.next_head.Given as goal

-- no head of the verb stands between
abbrev pub invariant-loop-line : goal.invariant-loop-line
invariant-loop-line l = groups_for l.db l.verb l.from ≡ groups_for l.db l.verb l.line
