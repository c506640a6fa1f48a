use Rattle.trans_actions.proofs.PartsNamed.{actions_are_distinct as law}
use Rattle.trans_actions.proofs.laws.actions_are_distinct.Goals as goal

pub returns : goal.returns
returns c = law
