use Rattle.trans_specs.proofs.Flat.{exits_stand as law}
use Rattle.trans_specs.proofs.laws.exits_stand.Goals as goal

pub returns : goal.returns
returns c = law
