use Rattle.inform_entered.proofs.Examples.{calls_enter as example}
use Rattle.inform_entered.proofs.worked.calls_enter.Goals as goal

-- src/worked.rt
pub returns : goal.returns
returns c = example
