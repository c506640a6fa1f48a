use Rattle.trans_specs.proofs.Flat.{letters_stand as law}
use Rattle.trans_specs.proofs.laws.letters_stand.Goals as goal

pub returns : goal.returns
returns c = law
