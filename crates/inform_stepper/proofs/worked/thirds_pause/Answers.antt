use Rattle.inform_stepper.proofs.Examples.{thirds_pause as example}
use Rattle.inform_stepper.proofs.worked.thirds_pause.Goals as goal

-- src/worked.rt
pub returns : goal.returns
returns c = example
