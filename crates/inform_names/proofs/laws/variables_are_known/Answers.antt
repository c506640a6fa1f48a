use Rattle.inform_names.proofs.Faultless.{variables_known as law}
use Rattle.inform_names.proofs.laws.variables_are_known.Goals as goal

pub returns : goal.returns
returns c = law
