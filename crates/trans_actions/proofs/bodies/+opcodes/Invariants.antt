use Rattle.std.proofs.Common.{length}
use Rattle.trans_actions.proofs.bodies.+opcodes.Given as goal

abbrev pub decreases-opcodes : goal.decreases-opcodes
decreases-opcodes l = length l.numbers.now
