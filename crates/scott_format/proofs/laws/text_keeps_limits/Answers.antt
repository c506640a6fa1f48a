use Rattle.scott_format.proofs.Answered.{text_keeps_limits}
use Rattle.scott_format.proofs.laws.text_keeps_limits.Goals as goal

pub returns : goal.returns
returns c = text_keeps_limits c.text_laws.ensures
