use Rattle.scott_rules.proofs.FittingCommands.{Fits-walk_result}
use Rattle.scott_rules.proofs.laws.walk_fits.Goals as goal

pub returns : goal.returns
returns c = λ game noun s limits fits. Fits-walk_result game limits noun s fits
