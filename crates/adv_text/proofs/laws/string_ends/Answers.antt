use Rattle.adv_text.proofs.Places.{string_ends}
use Rattle.adv_text.proofs.laws.string_ends.Goals as goal

pub returns : goal.returns
returns c = string_ends
