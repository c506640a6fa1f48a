use Rattle.inform_texts.proofs.Texts.{never_both as law}
use Rattle.inform_texts.proofs.laws.never_both.Goals as goal

pub returns : goal.returns
returns c = law c.never_both.ensures c.one_token_list.ensures c.never_both-2.ensures
