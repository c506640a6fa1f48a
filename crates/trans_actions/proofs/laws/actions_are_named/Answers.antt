use Rattle.trans_actions.proofs.PartsNamed.{actions_are_named as law}
use Rattle.trans_actions.proofs.laws.actions_are_named.Goals as goal

pub returns : goal.returns
returns c = law
