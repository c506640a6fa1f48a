use Rattle.adv_text.proofs.Places.{number_ends}
use Rattle.adv_text.proofs.laws.number_ends.Goals as goal

pub returns : goal.returns
returns c = number_ends
