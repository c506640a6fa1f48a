use Rattle.std.proofs.Common.{refl}
use Rattle.scott_actions.proofs.effects.takes.Goals as goal

pub returns-then-is_full : goal.returns-then-is_full
returns-then-is_full c = rw (c.in-Get.is, ← c.is_full.ensures, c.if-is_full.true) refl
