use Rattle.inform_simplify.proofs.Examples.{known_tests_go as example}
use Rattle.inform_simplify.proofs.worked.known_tests_go.Goals as goal

-- src/worked.rt
pub returns : goal.returns
returns c = example
