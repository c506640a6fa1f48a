use Rattle.inform_stepper.proofs.Showing.{steps_are_shown}
use Rattle.inform_stepper.proofs.laws.steps_are_shown.Goals as goal

pub returns : goal.returns
returns c = steps_are_shown c.pieces_join.ensures
