use Rattle.adv_hall.proofs.Playing.{each_hears_alone}
use Rattle.adv_hall.proofs.laws.each_hears_alone.Goals as goal

pub returns : goal.returns
returns c = each_hears_alone c.play_splits.ensures
