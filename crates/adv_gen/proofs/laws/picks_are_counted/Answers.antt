use Rattle.adv_gen.proofs.PickCounts.{picks_counted}
use Rattle.adv_gen.proofs.laws.picks_are_counted.Goals as goal

pub returns : goal.returns
returns c = picks_counted
