use Rattle.inform_names.proofs.Faultless.{arrays_known as law}
use Rattle.inform_names.proofs.laws.arrays_are_known.Goals as goal

pub returns : goal.returns
returns c = law
