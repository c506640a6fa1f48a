use Rattle.trans_specs.proofs.Distinct.{data_distinct as law}
use Rattle.trans_specs.proofs.laws.data_distinct.Goals as goal

pub returns : goal.returns
returns c = law
