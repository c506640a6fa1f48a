use Rattle.inform_steps.proofs.Waiting.{waits_stay}
use Rattle.inform_steps.proofs.laws.waits_stay.Goals as goal

pub returns : goal.returns
returns c = waits_stay c.moves_mean.ensures c.runs_stand.ensures
