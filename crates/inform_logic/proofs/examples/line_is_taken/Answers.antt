use Rattle.inform_logic.proofs.Asked.{line_is_taken as law}
use Rattle.inform_logic.proofs.examples.line_is_taken.Goals as goal

pub returns : goal.returns
returns c = law
