use Rattle.inform_reader.proofs.Formed.{well_formed as law}
use Rattle.inform_reader.proofs.laws.programs_are_well_formed.Goals as goal

pub returns : goal.returns
returns c = law c.tokens_are_writable.ensures c.routines_are_shallow.ensures
