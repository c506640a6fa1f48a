use Rattle.inform_steps.proofs.Entering.{stopped_enters_nothing}
use Rattle.inform_steps.proofs.laws.stopped_enters_nothing.Goals as goal

pub returns : goal.returns
returns c = stopped_enters_nothing c.stopped_stays.ensures
