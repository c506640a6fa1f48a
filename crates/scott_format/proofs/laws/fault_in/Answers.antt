use Rattle.scott_format.proofs.Answered.{fault_is}
use Rattle.scott_format.proofs.laws.fault_in.Goals as goal

pub returns : goal.returns
returns c = fault_is
