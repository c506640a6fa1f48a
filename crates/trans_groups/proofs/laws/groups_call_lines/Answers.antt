use Rattle.trans_groups.proofs.GroupsIn.{groups_call_lines as law}
use Rattle.trans_groups.proofs.laws.groups_call_lines.Goals as goal

pub returns : goal.returns
returns c = law
