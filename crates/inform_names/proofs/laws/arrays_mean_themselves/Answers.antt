use Rattle.inform_names.proofs.Faultless.{arrays_mean_themselves as law}
use Rattle.inform_names.proofs.laws.arrays_mean_themselves.Goals as goal

pub returns : goal.returns
returns c = law
