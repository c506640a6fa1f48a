use Rattle.inform_names.proofs.Meant.{are_first as law}
use Rattle.inform_names.proofs.laws.meanings_are_first.Goals as goal

pub returns : goal.returns
returns c = law
