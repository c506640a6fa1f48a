use Rattle.inform_logic.proofs.Thrown.{dice_are_added as law}
use Rattle.inform_logic.proofs.examples.dice_are_added.Goals as goal

pub returns : goal.returns
returns c = law
