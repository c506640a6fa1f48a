use Rattle.inform_names.proofs.Faultless.{values_known as law}
use Rattle.inform_names.proofs.laws.values_are_known.Goals as goal

pub returns : goal.returns
returns c = law
