use Rattle.std.proofs.Common.{refl}
use Rattle.scott_turn.proofs.automatic.lets_in.Goals as goal

pub returns : goal.returns
returns c = rw (c.from.ensures, c.noun_of.ensures, c.actions.ensures.value) refl
