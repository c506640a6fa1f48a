use Rattle.std.proofs.Common.{rules, ◌++◌}
use Rattle.scott_types.specs.declared.phrases.Phrase.TheVariants.{BetweenItems}
use Rattle.scott_types.specs.Phrase.{text_of}
use Rattle.adv_io.proofs.Buffering.{buffers-next, buffers-break}
use Rattle.scott_light.specs.ItemTexts.{shown_at}
use Rattle.scott_light.proofs.pieces.buffer_others.Goals as goal

pub returns-in_err-buffer_after : goal.returns-in_err-buffer_after
returns-in_err-buffer_after g c =
    buffers-break (λ number. text_of BetweenItems ++ shown_at c.args.items.now number) c.args.numbers.now c.loop-number.number-index 0 c.args.buffer.now c.loop-number.buffer c.buffer_after.new.buffer _ c.loop-number-test.true (search rules)
    c.loop-number.invariant (rw c.shown_at.ensures at c.in_err-buffer_after.ensures)

pub loop-number-preserved : goal.loop-number-preserved
loop-number-preserved g c =
    buffers-next (λ number. text_of BetweenItems ++ shown_at c.args.items.now number) _ c.args.numbers.now c.loop-number.number-index 0 c.args.buffer.now c.loop-number.buffer c.buffer_after.new.buffer c.loop-number-test.true
    c.loop-number.invariant (rw c.shown_at.ensures at c.in_ok-buffer_after.ensures)
