use Rattle.adv_text.proofs.Stays.{string_stays}
use Rattle.adv_text.proofs.laws.string_stays.Goals as goal

pub returns : goal.returns
returns c = string_stays
