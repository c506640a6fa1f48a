use Rattle.trans_data.proofs.DataFormed.{data_formed as law}
use Rattle.trans_data.proofs.laws.data_formed.Goals as goal

pub returns : goal.returns
returns c = law
