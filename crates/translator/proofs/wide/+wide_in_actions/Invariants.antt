use Rattle.std.proofs.Common.{length}
use Rattle.translator.proofs.wide.+wide_in_actions.Given as goal

abbrev pub decreases-wide_in_actions : goal.decreases-wide_in_actions
decreases-wide_in_actions l = length l.actions.now
