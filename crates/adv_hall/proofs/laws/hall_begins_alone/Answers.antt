use Rattle.adv_hall.proofs.GoingOn.{hall_begins_alone}
use Rattle.adv_hall.proofs.laws.hall_begins_alone.Goals as goal

pub returns : goal.returns
returns c = hall_begins_alone
