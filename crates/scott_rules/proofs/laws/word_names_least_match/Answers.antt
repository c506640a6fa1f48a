use Rattle.scott_rules.proofs.Entries.{which-answers}
use Rattle.scott_rules.proofs.laws.word_names_least_match.Goals as goal

pub returns : goal.returns
returns c = which-answers
