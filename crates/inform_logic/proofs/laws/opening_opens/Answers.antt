use Rattle.inform_logic.proofs.Holding.{opening_opens as law}
use Rattle.inform_logic.proofs.laws.opening_opens.Goals as goal

pub returns : goal.returns
returns c = law c.meanings_are_first.ensures
