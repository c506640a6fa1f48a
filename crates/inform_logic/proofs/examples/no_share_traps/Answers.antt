use Rattle.inform_logic.proofs.Shared.{no_share_traps as law}
use Rattle.inform_logic.proofs.examples.no_share_traps.Goals as goal

pub returns : goal.returns
returns c = law
