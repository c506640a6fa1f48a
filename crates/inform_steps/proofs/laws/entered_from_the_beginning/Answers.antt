use Rattle.inform_steps.proofs.Entering.{entered_from_the_beginning}
use Rattle.inform_steps.proofs.laws.entered_from_the_beginning.Goals as goal

pub returns : goal.returns
returns c = entered_from_the_beginning
