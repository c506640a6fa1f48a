use Rattle.scott_turn.proofs.Waiting.{play_stands}
use Rattle.scott_turn.proofs.laws.play_stands.Goals as goal

pub returns : goal.returns
returns c = play_stands c.advance_stands.ensures c.answer_stands.ensures
