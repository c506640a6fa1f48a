use Rattle.inform_names.proofs.Faultless.{constants_known as law}
use Rattle.inform_names.proofs.laws.constants_are_known.Goals as goal

pub returns : goal.returns
returns c = law
