use Rattle.adv_text.proofs.Stays.{number_stays}
use Rattle.adv_text.proofs.laws.number_stays.Goals as goal

pub returns : goal.returns
returns c = number_stays
