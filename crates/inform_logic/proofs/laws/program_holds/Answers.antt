use Rattle.inform_logic.proofs.Holding.{program_holds as law}
use Rattle.inform_logic.proofs.laws.program_holds.Goals as goal

pub returns : goal.returns
returns c = law c.meanings_are_first.ensures
