use Rattle.trans_specs.proofs.LineWords.{lines_have_words as law}
use Rattle.trans_specs.proofs.laws.lines_have_words.Goals as goal

pub returns : goal.returns
returns c = law
