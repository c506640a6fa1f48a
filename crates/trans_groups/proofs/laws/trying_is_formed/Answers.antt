use Rattle.trans_groups.proofs.Formed.{trying_formed}
use Rattle.trans_groups.proofs.laws.trying_is_formed.Goals as goal

pub returns : goal.returns
returns c = trying_formed
