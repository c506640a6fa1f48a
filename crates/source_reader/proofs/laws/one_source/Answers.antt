use Rattle.source_reader.proofs.Answered.{one_source}
use Rattle.source_reader.proofs.laws.one_source.Goals as goal

pub returns : goal.returns
returns c = one_source c.token_laws.ensures.token_is_exact c.token_laws.ensures.token_fault_is_exact
