use Rattle.adv_text.proofs.Strings.{string_is_spelled}
use Rattle.adv_text.proofs.laws.string_is_spelled.Goals as goal

pub returns : goal.returns
returns c = string_is_spelled
