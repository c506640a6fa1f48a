use Rattle.std.proofs.Common.{length}
use Rattle.scott_actions.proofs.actions.+run_opcodes.Given as goal

-- the opcodes that are left
abbrev pub decreases-run_opcodes : goal.decreases-run_opcodes
decreases-run_opcodes g l = length l.opcodes.now
