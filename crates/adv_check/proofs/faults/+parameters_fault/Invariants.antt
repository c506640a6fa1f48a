use Rattle.std.proofs.Common.{length}
use Rattle.adv_check.proofs.faults.+parameters_fault.Given as goal

-- the parameters that are still to be looked at
abbrev pub decreases-parameters_fault : goal.decreases-parameters_fault
decreases-parameters_fault l = length l.kinds.now
