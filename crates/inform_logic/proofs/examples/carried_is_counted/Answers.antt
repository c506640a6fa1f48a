use Rattle.inform_logic.proofs.Carried.{carried_is_counted as law}
use Rattle.inform_logic.proofs.examples.carried_is_counted.Goals as goal

pub returns : goal.returns
returns c = law
