use Rattle.std.proofs.Common.{◌≡◌, ◌∙◌}
use Rattle.adv_gen.specs.Picks.{after}
use Rattle.adv_gen.proofs.Picking.{taken}
use Rattle.adv_gen.proofs.ActionParts.{condition-at, parameter-at}
use Rattle.adv_gen.proofs.actions.conditions.Goals as goal

pub returns-clause-made : goal.returns-clause-made
returns-clause-made c =
    let g = c.args.picks.now in
    let two : c.condition.new.picks ≡ after 2 g = c.condition.ensures.next in
    let four : c.condition-2.new.picks ≡ after 4 g =
    taken 2 2 g _ _ two c.condition-2.ensures.next in
    let five : c.parameter.new.picks ≡ after 5 g = taken 4 1 g _ _ four c.parameter.ensures.next in
    let six : c.parameter-2.new.picks ≡ after 6 g =
    taken 5 1 g _ _ five c.parameter-2.ensures.next in
    rw (
      c.condition.ensures.made,
      c.condition-2.ensures.made ∙ condition-at 2 g _ two,
      c.parameter.ensures.made ∙ parameter-at 4 g _ four,
      c.parameter-2.ensures.made ∙ parameter-at 5 g _ five,
      c.parameter-3.ensures.made ∙ parameter-at 6 g _ six,
    )

pub returns-clause-next : goal.returns-clause-next
returns-clause-next c =
    let g = c.args.picks.now in
    let two : c.condition.new.picks ≡ after 2 g = c.condition.ensures.next in
    let four : c.condition-2.new.picks ≡ after 4 g =
    taken 2 2 g _ _ two c.condition-2.ensures.next in
    let five : c.parameter.new.picks ≡ after 5 g = taken 4 1 g _ _ four c.parameter.ensures.next in
    let six : c.parameter-2.new.picks ≡ after 6 g =
    taken 5 1 g _ _ five c.parameter-2.ensures.next in
    taken 6 1 g _ _ six c.parameter-3.ensures.next
