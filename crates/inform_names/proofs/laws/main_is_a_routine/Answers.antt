use Rattle.inform_names.proofs.Faultless.{main_is_a_routine as law}
use Rattle.inform_names.proofs.laws.main_is_a_routine.Goals as goal

pub returns : goal.returns
returns c = law
