use Rattle.trans_data.proofs.HelpersMet.{helpers_meet_specs as law}
use Rattle.trans_data.proofs.laws.helpers_meet_specs.Goals as goal

pub returns : goal.returns
returns c = law
