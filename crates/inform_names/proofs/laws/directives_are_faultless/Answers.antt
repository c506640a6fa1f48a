use Rattle.inform_names.proofs.Faultless.{faultless as law}
use Rattle.inform_names.proofs.laws.directives_are_faultless.Goals as goal

pub returns : goal.returns
returns c = law
