use Rattle.adv_draws.proofs.ListingLaws.{run_alone as law}
use Rattle.adv_draws.proofs.laws.run_alone.Goals as goal

pub returns : goal.returns
returns c = law
