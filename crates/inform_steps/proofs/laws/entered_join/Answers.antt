use Rattle.inform_steps.proofs.Entering.{entered_join}
use Rattle.inform_steps.proofs.laws.entered_join.Goals as goal

pub returns : goal.returns
returns c = entered_join c.pieces_join.ensures
