use Rattle.trans_specs.proofs.Wide.{none_wide_at_32 as law}
use Rattle.trans_specs.proofs.laws.none_wide_at_32.Goals as goal

pub returns : goal.returns
returns c = law
