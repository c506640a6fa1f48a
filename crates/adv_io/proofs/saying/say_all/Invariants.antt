use Rattle.std.proofs.Common.{[], take}
use Rattle.adv_io.specs.Console.{Buffers, pieces_text}
use Rattle.adv_io.proofs.Sayings.{success}
use Rattle.adv_io.proofs.saying.say_all.Given as goal

-- the pieces so far were said, or are buffered
abbrev pub invariant-loop-piece : goal.invariant-loop-piece
invariant-loop-piece g l =
    let seen = g.C.Console.seen in
    Buffers (seen l.initial.console) (seen l.console) success [] l.buffer (pieces_text (take l.piece-index l.pieces))
