use Rattle.scott_rules.proofs.FittingActions.{Fits-changed}
use Rattle.scott_rules.proofs.laws.opcode_fits.Goals as goal

pub returns : goal.returns
returns c = λ db opcode p q s limits fits. Fits-changed db limits opcode p q s fits
