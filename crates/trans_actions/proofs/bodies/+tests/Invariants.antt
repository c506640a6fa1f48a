use Rattle.std.proofs.Common.{length}
use Rattle.trans_actions.proofs.bodies.+tests.Given as goal

abbrev pub decreases-tests : goal.decreases-tests
decreases-tests l = length l.conds.now
