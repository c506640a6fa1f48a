use Rattle.std.proofs.Common.{rules}
use Rattle.scott_types.specs.declared.phrases.Phrase.TheVariants.{BetweenItems}
use Rattle.scott_types.specs.Phrase.{text_of}
use Rattle.adv_io.proofs.Buffering.{buffers-exit, buffers-then}
use Rattle.scott_light.proofs.pieces.buffer_after.Goals as goal

pub returns-in_err-buffer_text : goal.returns-in_err-buffer_text
returns-in_err-buffer_text g c =
    buffers-exit c.args.buffer.now c.buffer_text.new.self c.buffer_text.new.self (text_of BetweenItems) c.args.text.now (search rules) (rw c.text.ensures at c.in_err-buffer_text.ensures)

pub returns : goal.returns
returns g c =
    buffers-then c.args.buffer.now c.buffer_text.new.self c.buffer_text-2.new.self (text_of BetweenItems) c.args.text.now (rw c.text.ensures at c.in_ok-buffer_text.ensures) c.buffer_text-2.ensures
