use Rattle.std.proofs.Common.{refl}
use Rattle.scott_format.specs.Sections.{string, word}
use Rattle.scott_format.proofs.OneByOne.{nothing, three, eight_read}
use Rattle.scott_format.proofs.pieces.WordPiece.read.Goals as goal

pub returns : goal.returns
unfolding word
returns c =
    eight_read (three string string nothing (λ verb noun _. record { verb = verb; noun = noun }))
    c.args.scan.now c.in_ok-verb.ensures c.in_ok-noun.ensures refl refl refl refl refl refl
