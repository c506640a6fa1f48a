use Rattle.trans_groups.proofs.GroupsIn.{groups_are_distinct as law}
use Rattle.trans_groups.proofs.laws.groups_are_distinct.Goals as goal

pub returns : goal.returns
returns c = law
