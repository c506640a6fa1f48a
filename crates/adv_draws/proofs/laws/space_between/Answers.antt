use Rattle.adv_draws.proofs.ListingLaws.{space_between as law}
use Rattle.adv_draws.proofs.laws.space_between.Goals as goal

pub returns : goal.returns
returns c = law
