use Rattle.std.proofs.Common.{rules, []}
use Rattle.adv_io.specs.Console.{pieces_text}
use Rattle.adv_io.proofs.Buffering.{buffers-next, buffers-break, buffers-whole, buffers-end, buffers-stopped}
use Rattle.adv_io.proofs.saying.say_all.Goals as goal

pub returns-in_err-buffer_text : goal.returns-in_err-buffer_text
returns-in_err-buffer_text g c =
    buffers-stopped [] (pieces_text c.args.pieces.now) (search rules)
    (buffers-break (λ piece. piece.now) c.args.pieces.now c.loop-piece.piece-index _ [] c.loop-piece.buffer c.buffer_text.new.self [] c.loop-piece-test.true (search rules)
    c.loop-piece.invariant c.in_err-buffer_text.ensures)

pub loop-piece-preserved : goal.loop-piece-preserved
loop-piece-preserved g c =
    buffers-next (λ piece. piece.now) _ c.args.pieces.now c.loop-piece.piece-index _ [] c.loop-piece.buffer c.buffer_text.new.self c.loop-piece-test.true
    c.loop-piece.invariant c.in_ok-buffer_text.ensures

pub returns : goal.returns
returns g c =
    buffers-end c.loop-piece.buffer (pieces_text c.args.pieces.now)
    (buffers-whole (λ piece. piece.now) c.args.pieces.now c.loop-piece.piece-index [] c.loop-piece.buffer c.loop-piece-test.false c.loop-piece.invariant)
    c.say.ensures
