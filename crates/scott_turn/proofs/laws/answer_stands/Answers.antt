use Rattle.scott_turn.proofs.Waiting.{answer_stands}
use Rattle.scott_turn.proofs.laws.answer_stands.Goals as goal

pub returns : goal.returns
returns c = answer_stands c.answer_ends_well.ensures
