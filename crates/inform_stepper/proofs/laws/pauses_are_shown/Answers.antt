use Rattle.inform_stepper.proofs.Showing.{pauses_are_shown}
use Rattle.inform_stepper.proofs.laws.pauses_are_shown.Goals as goal

pub returns : goal.returns
returns c = pauses_are_shown c.pieces_join.ensures
