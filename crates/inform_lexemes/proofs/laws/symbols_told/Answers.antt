use Rattle.inform_lexemes.proofs.Told.{symbols_told as told}
use Rattle.inform_lexemes.proofs.laws.symbols_told.Goals as goal

pub returns : goal.returns
returns c = told
