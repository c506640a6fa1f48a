use Rattle.inform_texts.proofs.Texts.{fault_is_first as law}
use Rattle.inform_texts.proofs.laws.fault_is_first.Goals as goal

pub returns : goal.returns
returns c = law c.fault_is_first.ensures
