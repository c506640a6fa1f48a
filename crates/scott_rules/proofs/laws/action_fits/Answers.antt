use Rattle.scott_rules.proofs.FittingActions.{Fits-try_action}
use Rattle.scott_rules.proofs.laws.action_fits.Goals as goal

pub returns : goal.returns
returns c = λ game noun line s limits fits. Fits-try_action game limits noun line s fits
