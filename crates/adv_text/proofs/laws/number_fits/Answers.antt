use Rattle.adv_text.proofs.Giving.{number_fits}
use Rattle.adv_text.proofs.laws.number_fits.Goals as goal

pub returns : goal.returns
returns c = number_fits
