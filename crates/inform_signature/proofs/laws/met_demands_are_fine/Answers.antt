use Rattle.inform_signature.proofs.Demanded.{met_demands_are_fine}
use Rattle.inform_signature.proofs.laws.met_demands_are_fine.Goals as goal

-- src/laws.rt
pub returns : goal.returns
returns c = met_demands_are_fine
