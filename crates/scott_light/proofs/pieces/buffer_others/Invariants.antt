use Rattle.std.proofs.Common.{take, flat_map, ◌++◌}
use Rattle.adv_io.specs.Console.{Buffers}
use Rattle.adv_io.proofs.Sayings.{success}
use Rattle.scott_types.specs.declared.phrases.Phrase.TheVariants.{BetweenItems}
use Rattle.scott_types.specs.Phrase.{text_of}
use Rattle.scott_light.specs.ItemTexts.{shown_at}
use Rattle.scott_light.proofs.pieces.buffer_others.Given as goal

-- the items so far were said, or are buffered
abbrev pub invariant-loop-number : goal.invariant-loop-number
invariant-loop-number g l =
    let seen = g.C.Console.seen in
    Buffers (seen l.initial.console) (seen l.console) success l.initial.buffer l.buffer
    (flat_map (λ number. text_of BetweenItems ++ shown_at l.items number) (take l.number-index l.numbers))
