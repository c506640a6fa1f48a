use Rattle.std.proofs.Common.{refl}
use Rattle.scott_tool.specs.Obeying as o
use Rattle.scott_tool.proofs.commands.play.keep_position.Goals as goal

pub returns-in-Fresh : goal.returns-in-Fresh
returns-in-Fresh g c = rw c.in-Fresh.is (o.nothing refl refl refl refl)

pub returns-in-Over : goal.returns-in-Over
returns-in-Over g c = rw c.in-Over.is (o.nothing refl refl refl refl)

pub returns-in-Draw : goal.returns-in-Draw
returns-in-Draw g c = rw c.in-Draw.is (rw c.in-Draw.is at c.store_position.ensures)

pub returns-in-Line : goal.returns-in-Line
returns-in-Line g c = rw c.in-Line.is (rw c.in-Line.is at c.store_position-in-Line.ensures)
