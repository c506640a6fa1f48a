use Rattle.adv_gen.proofs.Limits.{database_fits}
use Rattle.adv_gen.proofs.laws.made_keeps_limits.Goals as goal

pub returns : goal.returns
returns c = database_fits
