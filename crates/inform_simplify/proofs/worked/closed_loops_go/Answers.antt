use Rattle.inform_simplify.proofs.Examples.{closed_loops_go as example}
use Rattle.inform_simplify.proofs.worked.closed_loops_go.Goals as goal

-- src/worked.rt
pub returns : goal.returns
returns c = example
