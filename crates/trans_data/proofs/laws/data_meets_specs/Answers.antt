use Rattle.trans_data.proofs.DataMet.{data_meets_specs as law}
use Rattle.trans_data.proofs.laws.data_meets_specs.Goals as goal

pub returns : goal.returns
returns c = law
