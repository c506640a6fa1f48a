use Rattle.trans_groups.proofs.Searched.{search_meets_spec as law}
use Rattle.trans_groups.proofs.laws.search_meets_spec.Goals as goal

pub returns : goal.returns
returns c = law c.numbers_are_their_words.ensures c.lines_have_words.ensures
