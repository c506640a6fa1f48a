use Rattle.inform_logic.proofs.AskedRuns.{run_waits as law}
use Rattle.inform_logic.proofs.examples.run_waits.Goals as goal

pub returns : goal.returns
returns c = law
