use Rattle.source_reader.proofs.Answered.{source_is}
use Rattle.source_reader.proofs.laws.source_in.Goals as goal

pub returns : goal.returns
returns c = source_is c.token_laws.ensures.token_is_exact c.token_laws.ensures.token_fault_is_exact
