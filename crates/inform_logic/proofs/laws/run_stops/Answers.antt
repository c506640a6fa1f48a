use Rattle.inform_logic.proofs.Whole.{run_stops as law}
use Rattle.inform_logic.proofs.laws.run_stops.Goals as goal

pub returns : goal.returns
returns c = law
