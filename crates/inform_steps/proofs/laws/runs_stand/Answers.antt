use Rattle.inform_steps.proofs.Waiting.{runs_stand}
use Rattle.inform_steps.proofs.laws.runs_stand.Goals as goal

pub returns : goal.returns
returns c = runs_stand c.moves_mean.ensures c.moves_fall.ensures c.moves_need.ensures
