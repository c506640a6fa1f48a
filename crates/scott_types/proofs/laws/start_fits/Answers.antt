use Rattle.scott_types.proofs.Starting.{Fits-start}
use Rattle.scott_types.proofs.laws.start_fits.Goals as goal

pub returns : goal.returns
returns c = Fits-start
