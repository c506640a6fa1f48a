use Rattle.inform_logic.proofs.Cleared.{first_clear_is_found as law}
use Rattle.inform_logic.proofs.examples.first_clear_is_found.Goals as goal

pub returns : goal.returns
returns c = law
