use Rattle.inform_logic.proofs.LineNoted.{line_is_noted as law}
use Rattle.inform_logic.proofs.examples.line_is_noted.Goals as goal

pub returns : goal.returns
returns c = law
