use Rattle.inform_names.proofs.Faultless.{bodies_are_fine as law}
use Rattle.inform_names.proofs.laws.bodies_are_fine.Goals as goal

pub returns : goal.returns
returns c = law
