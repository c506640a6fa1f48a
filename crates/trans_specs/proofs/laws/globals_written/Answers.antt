use Rattle.trans_specs.proofs.Writes.{globals_written as law}
use Rattle.trans_specs.proofs.laws.globals_written.Goals as goal

pub returns : goal.returns
returns c = law
