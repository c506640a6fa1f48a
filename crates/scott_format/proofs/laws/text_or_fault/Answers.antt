use Rattle.scott_format.proofs.Answered.{text_or_fault}
use Rattle.scott_format.proofs.laws.text_or_fault.Goals as goal

pub returns : goal.returns
returns c = text_or_fault c.text_laws.ensures
