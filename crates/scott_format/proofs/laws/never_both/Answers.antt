use Rattle.scott_format.proofs.Answered.{never_both}
use Rattle.scott_format.proofs.laws.never_both.Goals as goal

pub returns : goal.returns
returns c = never_both c.text_laws.ensures
