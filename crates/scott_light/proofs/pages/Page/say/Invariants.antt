use Rattle.std.proofs.Common.{[], take, flat_map}
use Rattle.adv_io.specs.Console.{Buffers}
use Rattle.adv_io.proofs.Sayings.{success}
use Rattle.scott_light.specs.Pieces.{piece_text}
use Rattle.scott_light.proofs.pages.Page.say.Given as goal

-- the pieces so far were said, or are buffered
abbrev pub invariant-loop-piece : goal.invariant-loop-piece
invariant-loop-piece g l =
    let seen = g.C.Console.seen in
    Buffers (seen l.initial.console) (seen l.console) success [] l.buffer (flat_map piece_text (take l.piece-index l.piece-items))
