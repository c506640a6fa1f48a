use Rattle.inform_logic.proofs.Said.{place_is_said as law}
use Rattle.inform_logic.proofs.examples.place_is_said.Goals as goal

pub returns : goal.returns
returns c = law
