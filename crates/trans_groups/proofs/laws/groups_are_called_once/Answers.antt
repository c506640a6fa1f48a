use Rattle.trans_groups.proofs.CalledOnce.{groups_are_called_once}
use Rattle.trans_groups.proofs.laws.groups_are_called_once.Goals as goal

pub returns : goal.returns
returns c = groups_are_called_once
