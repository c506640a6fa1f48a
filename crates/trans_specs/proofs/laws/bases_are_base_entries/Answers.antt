use Rattle.trans_specs.proofs.Bases.{bases_are_base_entries as law}
use Rattle.trans_specs.proofs.laws.bases_are_base_entries.Goals as goal

pub returns : goal.returns
returns c = law
