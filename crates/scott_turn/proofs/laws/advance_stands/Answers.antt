use Rattle.scott_turn.proofs.Waiting.{advance_stands}
use Rattle.scott_turn.proofs.laws.advance_stands.Goals as goal

pub returns : goal.returns
returns c = advance_stands c.advance_ends_well.ensures
