use Rattle.std.proofs.Common.{rules, ◌++◌, ◌-◌, ◌<◌, length, take, drop, flat_map, sym}
use Rattle.std.proofs.lemmas.List.Elements.{All-take, All-drop}
use Rattle.scott_types.specs.declared.phrases.Phrase.TheVariants.{BetweenItems}
use Rattle.scott_types.specs.Phrase.{text_of}
use Rattle.adv_io.proofs.Buffering.{buffers-exit, buffers-then}
use Rattle.scott_light.specs.ItemTexts.{shown_at}
use Rattle.scott_light.proofs.Joining.{joined-parts}
use Rattle.scott_light.proofs.pieces.buffer_items.Goals as goal

pub returns-in_err-buffer_text-in-len1-up : goal.returns-in_err-buffer_text-in-len1-up
returns-in_err-buffer_text-in-len1-up g c =
    let numbers = c.args.numbers.now in
    let shown = shown_at c.args.items.now in
    rw (sym (joined-parts shown (text_of BetweenItems) numbers 0 c.in-len1-up.len_at_least))
    (buffers-exit c.args.buffer.now c.buffer_text.new.self c.buffer_text.new.self _ (flat_map (λ number. text_of BetweenItems ++ shown number) (take (length numbers - 1) (drop 1 numbers))) (search rules)
    (rw c.shown_at.ensures at c.in_err-buffer_text-in-len1-up.ensures))

pub buffer_others-requires : goal.buffer_others-requires
buffer_others-requires g c =
    let numbers = c.args.numbers.now in
    All-take (λ number. number < length c.args.items.now) (length numbers - 1) (drop 1 numbers) (All-drop (λ number. number < length c.args.items.now) 1 numbers c.requires)

pub returns-in_ok-buffer_text-in-len1-up : goal.returns-in_ok-buffer_text-in-len1-up
returns-in_ok-buffer_text-in-len1-up g c =
    let numbers = c.args.numbers.now in
    let shown = shown_at c.args.items.now in
    rw (sym (joined-parts shown (text_of BetweenItems) numbers 0 c.in-len1-up.len_at_least))
    (buffers-then c.args.buffer.now c.buffer_text.new.self c.buffer_others.new.buffer _ (flat_map (λ number. text_of BetweenItems ++ shown number) (take (length numbers - 1) (drop 1 numbers)))
    (rw c.shown_at.ensures at c.in_ok-buffer_text-in-len1-up.ensures) c.buffer_others.ensures)
