use Rattle.std.proofs.Common.{refl}
use Rattle.scott_turn.proofs.item_turns.say_too_much.Goals as goal

pub returns-clause-item_turn : goal.returns-clause-item_turn
returns-clause-item_turn g c = refl
