use Rattle.scott_format.proofs.Dues.{string_due}
use Rattle.scott_format.proofs.pieces.TextPiece.first.Goals as goal

pub returns : goal.returns
returns c = λ k. string_due
