use Rattle.source_reader.proofs.Answered.{one_text_fault}
use Rattle.source_reader.proofs.laws.one_fault.Goals as goal

pub returns : goal.returns
returns c = one_text_fault c.token_laws.ensures.token_is_exact c.token_laws.ensures.token_fault_is_exact
