use Rattle.std.proofs.Common.{rules, [], flat_map}
use Rattle.adv_io.proofs.Buffering.{buffers-next, buffers-break, buffers-whole, buffers-end, buffers-stopped}
use Rattle.scott_light.specs.Pieces.{piece_text}
use Rattle.scott_light.proofs.pages.Page.say.Goals as goal

pub returns-in_err-buffer_text : goal.returns-in_err-buffer_text
returns-in_err-buffer_text g c =
    let pieces = c.as_slice-piece-items.result.now in
    rw (← c.self.view_is, ← c.as_slice-piece-items.ensures.value)
    (buffers-stopped [] (flat_map piece_text pieces) (search rules)
    (buffers-break piece_text pieces c.loop-piece.piece-index c.piece-item.result [] c.loop-piece.buffer c.buffer_text.new.buffer [] c.loop-piece-test.true (search rules)
    c.loop-piece.invariant (rw c.piece-item.is at c.in_err-buffer_text.ensures)))

pub loop-piece-preserved : goal.loop-piece-preserved
loop-piece-preserved g c =
    buffers-next piece_text _ c.as_slice-piece-items.result.now c.loop-piece.piece-index c.piece-item.result [] c.loop-piece.buffer c.buffer_text.new.buffer c.loop-piece-test.true
    c.loop-piece.invariant (rw c.piece-item.is at c.in_ok-buffer_text.ensures)

pub returns : goal.returns
returns g c =
    let pieces = c.as_slice-piece-items.result.now in
    rw (← c.self.view_is, ← c.as_slice-piece-items.ensures.value)
    (buffers-end c.loop-piece.buffer (flat_map piece_text pieces)
    (buffers-whole piece_text pieces c.loop-piece.piece-index [] c.loop-piece.buffer c.loop-piece-test.false c.loop-piece.invariant)
    c.say.ensures)
