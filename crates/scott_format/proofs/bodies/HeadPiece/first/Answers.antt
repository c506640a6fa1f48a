use Rattle.scott_format.proofs.Dues.{head_due}
use Rattle.scott_format.proofs.bodies.HeadPiece.first.Goals as goal

pub returns : goal.returns
returns c = λ k. head_due
