use Rattle.inform_names.proofs.Faultless.{constants_have_words as law}
use Rattle.inform_names.proofs.laws.constants_have_words.Goals as goal

pub returns : goal.returns
returns c = law
