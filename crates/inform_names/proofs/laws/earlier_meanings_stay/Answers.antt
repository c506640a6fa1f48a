use Rattle.inform_names.proofs.Meant.{earlier_stay as law}
use Rattle.inform_names.proofs.laws.earlier_meanings_stay.Goals as goal

pub returns : goal.returns
returns c = law
