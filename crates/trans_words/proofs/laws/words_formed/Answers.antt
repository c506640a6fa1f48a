use Rattle.trans_words.proofs.Formed.{reader_is_formed as law}
use Rattle.trans_words.proofs.laws.words_formed.Goals as goal

pub returns : goal.returns
returns c = law
