use Rattle.trans_specs.proofs.MainRuns.{main_is_enough as law}
use Rattle.trans_specs.proofs.laws.main_is_enough.Goals as goal

pub returns : goal.returns
returns c = law c.opening_opens.ensures c.run_stops.ensures
