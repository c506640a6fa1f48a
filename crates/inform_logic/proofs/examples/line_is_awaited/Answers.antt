use Rattle.inform_logic.proofs.Asked.{line_is_awaited as law}
use Rattle.inform_logic.proofs.examples.line_is_awaited.Goals as goal

pub returns : goal.returns
returns c = law
