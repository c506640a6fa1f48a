use Rattle.scott_format.proofs.Dues.{room_due}
use Rattle.scott_format.proofs.pieces.RoomPiece.first.Goals as goal

pub returns : goal.returns
returns c = λ k. room_due
