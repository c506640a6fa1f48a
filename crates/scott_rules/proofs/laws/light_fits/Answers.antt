use Rattle.scott_rules.proofs.Fitting.{Fits-light_counted}
use Rattle.scott_rules.proofs.laws.light_fits.Goals as goal

pub returns : goal.returns
returns c = λ db style s limits fits. Fits-light_counted db limits style s fits
