use Rattle.std.proofs.Common.{◌∙◌}
use Rattle.adv_gen.proofs.Picking.{taken}
use Rattle.adv_gen.proofs.ActionParts.{condition-made}
use Rattle.adv_gen.proofs.actions.condition.Goals as goal

pub returns-clause-made : goal.returns-clause-made
returns-clause-made c =
    condition-made c.args.picks.now c.pick.new.self _ _ c.pick.ensures.next (c.from-argument.ensures
    ∙ c.pick.ensures.value)
    (c.from-code.ensures ∙ c.pick-2.ensures.value)

pub returns-clause-next : goal.returns-clause-next
returns-clause-next c =
    taken 1 1 c.args.picks.now c.pick.new.self _ c.pick.ensures.next c.pick-2.ensures.next
