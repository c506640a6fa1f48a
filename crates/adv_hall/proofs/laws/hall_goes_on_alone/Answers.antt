use Rattle.adv_hall.proofs.GoingOn.{hall_goes_on_alone}
use Rattle.adv_hall.proofs.laws.hall_goes_on_alone.Goals as goal

pub returns : goal.returns
returns c = hall_goes_on_alone c.each_hears_alone.ensures
