use Rattle.std.proofs.Common.{◌≡◌, drop}
use Rattle.scott_rules.specs.Transfer.{item_named}
use Rattle.scott_turn.proofs.choosing.least_named.Given as goal

-- no item so far is named
abbrev pub invariant-loop-i : goal.invariant-loop-i
invariant-loop-i l =
    item_named l.transfer l.size l.word 0 l.items l.state ≡ item_named l.transfer l.size l.word l.i (drop l.i l.items) l.state
