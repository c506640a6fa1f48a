use Rattle.trans_words.proofs.Called.{reader_calls_itself as law}
use Rattle.trans_words.proofs.laws.words_call_themselves.Goals as goal

pub returns : goal.returns
returns c = law
