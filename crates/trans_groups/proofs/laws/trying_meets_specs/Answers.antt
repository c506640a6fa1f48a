use Rattle.trans_groups.proofs.GroupsMet.{trying_meets_specs as law}
use Rattle.trans_groups.proofs.laws.trying_meets_specs.Goals as goal

pub returns : goal.returns
returns c = law c.groups_meet_specs.ensures c.automatic_meets_spec.ensures c.search_meets_spec.ensures
