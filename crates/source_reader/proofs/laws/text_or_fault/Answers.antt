use Rattle.source_reader.proofs.Answered.{text_or_fault}
use Rattle.source_reader.proofs.laws.text_or_fault.Goals as goal

pub returns : goal.returns
returns c = text_or_fault c.token_laws.ensures.token_is_exact c.token_laws.ensures.token_fault_is_exact
