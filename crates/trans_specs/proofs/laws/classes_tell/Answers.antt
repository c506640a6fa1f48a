use Rattle.trans_specs.proofs.Classes.{classes_tell as law}
use Rattle.trans_specs.proofs.laws.classes_tell.Goals as goal

pub returns : goal.returns
returns c = law
