use Rattle.inform_steps.proofs.Joining.{pieces_join}
use Rattle.inform_steps.proofs.laws.pieces_join.Goals as goal

pub returns : goal.returns
returns c = pieces_join c.moves_mean.ensures c.runs_split.ensures c.stop_stays.ensures c.past_counts_for_nothing.ensures c.runs_stand.ensures
