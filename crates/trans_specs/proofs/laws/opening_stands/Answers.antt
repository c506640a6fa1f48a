use Rattle.trans_specs.proofs.Opening.{opening_stands as law}
use Rattle.trans_specs.proofs.laws.opening_stands.Goals as goal

pub returns : goal.returns
returns c = law c.opening_opens.ensures
