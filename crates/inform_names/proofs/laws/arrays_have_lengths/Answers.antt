use Rattle.inform_names.proofs.Faultless.{arrays_have_lengths as law}
use Rattle.inform_names.proofs.laws.arrays_have_lengths.Goals as goal

pub returns : goal.returns
returns c = law
