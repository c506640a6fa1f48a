use Rattle.inform_logic.proofs.Shared.{shares_are_given as law}
use Rattle.inform_logic.proofs.examples.shares_are_given.Goals as goal

pub returns : goal.returns
returns c = law
