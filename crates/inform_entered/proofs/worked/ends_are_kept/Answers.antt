use Rattle.inform_entered.proofs.Examples.{ends_are_kept as example}
use Rattle.inform_entered.proofs.worked.ends_are_kept.Goals as goal

-- src/worked.rt
pub returns : goal.returns
returns c = example
