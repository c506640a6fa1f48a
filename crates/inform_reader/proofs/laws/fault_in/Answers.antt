use Rattle.inform_reader.proofs.ProgramsRead.{fault_law as law}
use Rattle.inform_reader.proofs.laws.fault_in.Goals as goal

pub returns : goal.returns
returns c = law c.program_in.ensures c.fault_in.ensures
