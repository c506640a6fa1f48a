use Rattle.scott_rules.proofs.Endings.{answer-known}
use Rattle.scott_rules.proofs.laws.answer_ends_well.Goals as goal

pub returns : goal.returns
returns c = answer-known
