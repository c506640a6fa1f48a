use Rattle.scott_rules.proofs.FittingCommands.{Fits-transferred}
use Rattle.scott_rules.proofs.laws.transfer_fits.Goals as goal

pub returns : goal.returns
returns c = λ db t item s limits fits. Fits-transferred db limits t item s fits
