use Rattle.inform_steps.proofs.Calling.{only_calls_enter}
use Rattle.inform_steps.proofs.laws.only_calls_enter.Goals as goal

pub returns : goal.returns
returns c = only_calls_enter c.moves_mean.ensures c.moves_fall.ensures c.moves_need.ensures c.moves_open.ensures c.runs_stand.ensures c.pieces_join.ensures c.stopped_stays.ensures
