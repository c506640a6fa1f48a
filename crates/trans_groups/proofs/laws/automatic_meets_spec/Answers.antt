use Rattle.trans_groups.proofs.Drawn.{automatic_meets_spec}
use Rattle.trans_groups.proofs.laws.automatic_meets_spec.Goals as goal

pub returns : goal.returns
returns c = automatic_meets_spec
