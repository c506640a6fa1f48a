use Rattle.std.proofs.Common.{◌≡◌, drop}
use Rattle.adv_draws.specs.Supply.{supplied}
use Rattle.scott_tool.proofs.commands.play.drop_draws.Given as goal

-- the rest is still to be dropped
abbrev pub invariant-loop-more : goal.invariant-loop-more
invariant-loop-more l =
    (drop l.more l.draws.left ≡ drop l.count l.initial.draws.left)
    × (supplied l.draws ≡ supplied l.initial.draws)

abbrev pub decreases-loop-more : goal.decreases-loop-more
decreases-loop-more l = l.more
