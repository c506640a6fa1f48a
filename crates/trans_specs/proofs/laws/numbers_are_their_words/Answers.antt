use Rattle.trans_specs.proofs.Written.{numbers_are_their_words as law}
use Rattle.trans_specs.proofs.laws.numbers_are_their_words.Goals as goal

pub returns : goal.returns
returns c = law
