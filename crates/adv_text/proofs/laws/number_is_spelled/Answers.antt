use Rattle.adv_text.proofs.Numbers.{number_is_spelled}
use Rattle.adv_text.proofs.laws.number_is_spelled.Goals as goal

pub returns : goal.returns
returns c = number_is_spelled
