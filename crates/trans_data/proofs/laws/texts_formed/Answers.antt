use Rattle.trans_data.proofs.TextsFormed.{texts_formed as law}
use Rattle.trans_data.proofs.laws.texts_formed.Goals as goal

pub returns : goal.returns
returns c = law
