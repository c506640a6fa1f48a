use Rattle.inform_lexemes.proofs.Told.{keywords_told as told}
use Rattle.inform_lexemes.proofs.laws.keywords_told.Goals as goal

pub returns : goal.returns
returns c = told
