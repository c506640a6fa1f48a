use Rattle.inform_stepper.proofs.Examples.{calls_pause as example}
use Rattle.inform_stepper.proofs.worked.calls_pause.Goals as goal

-- src/worked.rt
pub returns : goal.returns
returns c = example
