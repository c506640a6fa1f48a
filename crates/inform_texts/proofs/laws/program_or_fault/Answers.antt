use Rattle.inform_texts.proofs.Texts.{program_or_fault as law}
use Rattle.inform_texts.proofs.laws.program_or_fault.Goals as goal

pub returns : goal.returns
returns c = law c.tokens_or_fault.ensures c.sentence_or_fault.ensures
