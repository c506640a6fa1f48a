use Rattle.inform_names.proofs.Meant.{of_directives as law}
use Rattle.inform_names.proofs.laws.meanings_are_of_directives.Goals as goal

pub returns : goal.returns
returns c = law
