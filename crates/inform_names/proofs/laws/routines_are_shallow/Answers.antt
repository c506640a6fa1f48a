use Rattle.inform_names.proofs.Faultless.{routines_are_shallow as law}
use Rattle.inform_names.proofs.laws.routines_are_shallow.Goals as goal

pub returns : goal.returns
returns c = law
