use Rattle.inform_steps.proofs.Aside.{past_counts_for_nothing}
use Rattle.inform_steps.proofs.laws.past_counts_for_nothing.Goals as goal

pub returns : goal.returns
returns c = past_counts_for_nothing c.moves_mean.ensures c.moves_fall.ensures
