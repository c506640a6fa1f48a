use Rattle.inform_logic.proofs.AskedRuns.{run_is_over as law}
use Rattle.inform_logic.proofs.examples.run_is_over.Goals as goal

pub returns : goal.returns
returns c = law
