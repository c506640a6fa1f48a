use Rattle.std.proofs.Common.{◌≡◌, ◌∙◌}
use Rattle.adv_gen.specs.Picks.{after}
use Rattle.adv_gen.proofs.Picking.{taken}
use Rattle.adv_gen.proofs.ActionParts.{opcode-at}
use Rattle.adv_gen.proofs.actions.Kind.opcode_pairs.Goals as goal

pub returns-clause-made : goal.returns-clause-made
returns-clause-made c =
    let g = c.args.picks.now in
    let one : c.opcode.new.picks ≡ after 1 g = c.opcode.ensures.next in
    let two : c.opcode-2.new.picks ≡ after 2 g = taken 1 1 g _ _ one c.opcode-2.ensures.next in
    rw (
      c.from-first.ensures ∙ c.opcode.ensures.made,
      c.from-second.ensures ∙ c.opcode-2.ensures.made ∙ opcode-at 1 g _ one,
      c.from-third.ensures ∙ c.opcode-3.ensures.made ∙ opcode-at 2 g _ two,
      c.last_opcode.ensures.value,
    )

pub returns-clause-next : goal.returns-clause-next
returns-clause-next c =
    let g = c.args.picks.now in
    taken 2 1 g _ _ (taken 1 1 g _ _ c.opcode.ensures.next c.opcode-2.ensures.next)
    c.opcode-3.ensures.next
