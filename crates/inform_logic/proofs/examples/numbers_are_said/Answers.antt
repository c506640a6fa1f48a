use Rattle.inform_logic.proofs.NumbersSaid.{numbers_are_said as law}
use Rattle.inform_logic.proofs.examples.numbers_are_said.Goals as goal

pub returns : goal.returns
returns c = law
