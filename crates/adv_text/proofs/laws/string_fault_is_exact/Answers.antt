use Rattle.adv_text.proofs.Strings.{string_fault_is_exact}
use Rattle.adv_text.proofs.laws.string_fault_is_exact.Goals as goal

pub returns : goal.returns
returns c = string_fault_is_exact
