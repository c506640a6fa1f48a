use Rattle.trans_actions.proofs.PartsNamed.{lines_alone as law}
use Rattle.trans_actions.proofs.laws.lines_alone.Goals as goal

pub returns : goal.returns
returns c = law
