use Rattle.inform_simplify.proofs.Examples.{calls_stay as example}
use Rattle.inform_simplify.proofs.worked.calls_stay.Goals as goal

-- src/worked.rt
pub returns : goal.returns
returns c = example
