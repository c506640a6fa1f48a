use Rattle.inform_names.proofs.Faultless.{globals_are_fine as law}
use Rattle.inform_names.proofs.laws.globals_are_fine.Goals as goal

pub returns : goal.returns
returns c = law
