use Rattle.adv_check.proofs.Taking.{get_or-opcode_faults}
use Rattle.adv_check.proofs.laws.each_opcode_takes_its_own.Goals as goal

pub returns : goal.returns
returns c = get_or-opcode_faults
