use Rattle.trans_actions.proofs.PartsNamed.{lines_are_there as law}
use Rattle.trans_actions.proofs.laws.lines_are_there.Goals as goal

pub returns : goal.returns
returns c = law
