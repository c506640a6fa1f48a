use Rattle.inform_stepper.proofs.Stopping.{stopped_shows_no_more}
use Rattle.inform_stepper.proofs.laws.stopped_shows_no_more.Goals as goal

pub returns : goal.returns
returns c = stopped_shows_no_more c.stopped_stays.ensures
