use Rattle.trans_data.proofs.Served.{parts_are_served as law}
use Rattle.trans_data.proofs.laws.parts_are_served.Goals as goal

pub returns : goal.returns
returns c = law
