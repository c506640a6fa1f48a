use Rattle.source_reader.proofs.Answered.{fault_is}
use Rattle.source_reader.proofs.laws.fault_in.Goals as goal

pub returns : goal.returns
returns c = fault_is c.token_laws.ensures.token_is_exact c.token_laws.ensures.token_fault_is_exact
