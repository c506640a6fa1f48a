use Rattle.trans_groups.proofs.GroupsMet.{groups_meet_specs}
use Rattle.trans_groups.proofs.laws.groups_meet_specs.Goals as goal

pub returns : goal.returns
returns c = groups_meet_specs
