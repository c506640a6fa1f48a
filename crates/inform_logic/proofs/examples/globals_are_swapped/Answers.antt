use Rattle.inform_logic.proofs.Swapped.{globals_are_swapped as law}
use Rattle.inform_logic.proofs.examples.globals_are_swapped.Goals as goal

pub returns : goal.returns
returns c = law
