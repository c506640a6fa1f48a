use Rattle.trans_specs.proofs.Writes.{entries_written as law}
use Rattle.trans_specs.proofs.laws.entries_written.Goals as goal

pub returns : goal.returns
returns c = law
