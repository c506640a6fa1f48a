use Rattle.adv_text.proofs.Numbers.{number_fault_is_exact}
use Rattle.adv_text.proofs.laws.number_fault_is_exact.Goals as goal

pub returns : goal.returns
returns c = number_fault_is_exact
