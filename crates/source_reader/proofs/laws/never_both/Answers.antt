use Rattle.source_reader.proofs.Answered.{never_both}
use Rattle.source_reader.proofs.laws.never_both.Goals as goal

pub returns : goal.returns
returns c = never_both c.token_laws.ensures.token_is_exact c.token_laws.ensures.token_fault_is_exact
