use Rattle.trans_specs.proofs.Names.{lines_are_numbered as law}
use Rattle.trans_specs.proofs.laws.lines_are_numbered.Goals as goal

pub returns : goal.returns
returns c = law
