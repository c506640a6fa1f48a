use Rattle.trans_actions.proofs.Formed.{actions_formed}
use Rattle.trans_actions.proofs.laws.actions_are_formed.Goals as goal

pub returns : goal.returns
returns c = actions_formed
