use Rattle.trans_groups.proofs.GroupsIn.{groups_alone as law}
use Rattle.trans_groups.proofs.laws.groups_alone.Goals as goal

pub returns : goal.returns
returns c = law
