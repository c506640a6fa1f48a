use Rattle.inform_names.proofs.Faultless.{fine_constants_have_words as law}
use Rattle.inform_names.proofs.laws.fine_constants_have_words.Goals as goal

pub returns : goal.returns
returns c = law
