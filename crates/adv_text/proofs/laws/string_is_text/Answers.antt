use Rattle.adv_text.proofs.Giving.{string_is_text}
use Rattle.adv_text.proofs.laws.string_is_text.Goals as goal

pub returns : goal.returns
returns c = string_is_text
