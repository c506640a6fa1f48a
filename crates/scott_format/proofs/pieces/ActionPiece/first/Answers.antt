use Rattle.scott_format.proofs.Dues.{action_due}
use Rattle.scott_format.proofs.pieces.ActionPiece.first.Goals as goal

pub returns : goal.returns
returns c = action_due
