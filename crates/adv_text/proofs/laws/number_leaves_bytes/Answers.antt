use Rattle.adv_text.proofs.Giving.{number_leaves_bytes}
use Rattle.adv_text.proofs.laws.number_leaves_bytes.Goals as goal

pub returns : goal.returns
returns c = number_leaves_bytes
