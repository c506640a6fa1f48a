use Rattle.inform_entered.proofs.Examples.{empty_bodies_are_not_entered as example}
use Rattle.inform_entered.proofs.worked.empty_bodies_are_not_entered.Goals as goal

-- src/worked.rt
pub returns : goal.returns
returns c = example
