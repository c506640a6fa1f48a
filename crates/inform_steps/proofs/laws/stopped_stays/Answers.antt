use Rattle.inform_steps.proofs.Joining.{stopped_stays}
use Rattle.inform_steps.proofs.laws.stopped_stays.Goals as goal

pub returns : goal.returns
returns c = stopped_stays c.moves_mean.ensures c.runs_split.ensures c.runs_stand.ensures
