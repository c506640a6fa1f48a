use Rattle.scott_format.proofs.Dues.{word_due}
use Rattle.scott_format.proofs.pieces.WordPiece.first.Goals as goal

pub returns : goal.returns
returns c = λ k. word_due
