use Rattle.std.proofs.Common.{◌∙◌, ap}
use Rattle.rand_pcg.specs.Lcg.{Lcg}
use Rattle.adv_gen.specs.Picks.{after, pick}
use Rattle.adv_gen.proofs.Picking.{pick-first, step-after}
use Rattle.adv_gen.proofs.picks.Picks.pick.Goals as goal

pub returns-clause-value : goal.returns-clause-value
returns-clause-value c =
    rw c.from.ensures
    (pick-first _ _ _ c.args.bound c.next_word-word.ensures
    ∙ ap (λ (g : Lcg). pick g 0 c.args.bound) c.self.view_is)

pub returns-clause-next : goal.returns-clause-next
returns-clause-next c = step-after _ _ _ c.next_word-word.ensures ∙ ap (after 1) c.self.view_is
