use Rattle.inform_steps.proofs.Joining.{spent_goes_on}
use Rattle.inform_steps.proofs.laws.spent_goes_on.Goals as goal

pub returns : goal.returns
returns c = spent_goes_on c.moves_mean.ensures c.moves_need.ensures c.runs_add.ensures c.runs_stand.ensures
