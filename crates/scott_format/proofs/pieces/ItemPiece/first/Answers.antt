use Rattle.scott_format.proofs.Dues.{item_due}
use Rattle.scott_format.proofs.pieces.ItemPiece.first.Goals as goal

pub returns : goal.returns
returns c = λ k. item_due
