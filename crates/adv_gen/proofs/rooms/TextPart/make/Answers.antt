use Rattle.std.proofs.Common.{rules}
use Rattle.adv_gen.proofs.Picking.{none_taken}
use Rattle.adv_gen.proofs.rooms.TextPart.make.Goals as goal

pub returns-clause-next : goal.returns-clause-next
returns-clause-next c = let none = none_taken c.args._picks.now in search rules
