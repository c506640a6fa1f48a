use Rattle.trans_groups.proofs.Faultless.{trying_is_faultless as law}
use Rattle.trans_groups.proofs.laws.trying_is_faultless.Goals as goal

pub returns : goal.returns
returns c = law c.lines_have_words.ensures
