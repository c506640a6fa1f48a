use Rattle.trans_specs.proofs.Hill.{hill_is_shaped as law}
use Rattle.trans_specs.proofs.worked.hill_is_shaped.Goals as goal

pub returns : goal.returns
returns c = law
