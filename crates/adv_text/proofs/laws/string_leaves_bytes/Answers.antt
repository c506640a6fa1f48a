use Rattle.adv_text.proofs.Giving.{string_leaves_bytes}
use Rattle.adv_text.proofs.laws.string_leaves_bytes.Goals as goal

pub returns : goal.returns
returns c = string_leaves_bytes
