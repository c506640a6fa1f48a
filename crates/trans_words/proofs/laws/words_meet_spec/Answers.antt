use Rattle.trans_words.proofs.Reading.{lines_are_heard as law}
use Rattle.trans_words.proofs.laws.words_meet_spec.Goals as goal

pub returns : goal.returns
returns c = law
