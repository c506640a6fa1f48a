use Rattle.inform_stepper.proofs.Joining.{runs_join}
use Rattle.inform_stepper.proofs.laws.runs_join.Goals as goal

pub returns : goal.returns
returns c = runs_join c.pieces_join.ensures
