use Rattle.std.proofs.Common.{◌≡◌, ◌∙◌, ◌+◌, pos, ap, rules, w32, to_z, of_z}
use Rattle.adv_gen.specs.Picks.{after}
use Rattle.adv_gen.proofs.Picking.{taken, pick-at}
use Rattle.adv_gen.proofs.rooms.exits.Goals as goal

pub returns-clause-made : goal.returns-clause-made
returns-clause-made c =
    let g = c.args.picks.now in
    let rooms = c.args.size + 1 in
    let one : c.exit.new.picks ≡ after 1 g = c.exit.ensures.next in
    let two : c.exit-2.new.picks ≡ after 2 g = taken 1 1 g _ _ one c.exit-2.ensures.next in
    let three : c.exit-3.new.picks ≡ after 3 g = taken 2 1 g _ _ two c.exit-3.ensures.next in
    let four : c.exit-4.new.picks ≡ after 4 g = taken 3 1 g _ _ three c.exit-4.ensures.next in
    let five : c.exit-5.new.picks ≡ after 5 g = taken 4 1 g _ _ four c.exit-5.ensures.next in
    let kept : to_z w32 (of_z w32 c.exit.result) ≡ c.exit.result = search rules in
    let kept_2 : to_z w32 (of_z w32 c.exit-2.result) ≡ c.exit-2.result = search rules in
    let kept_3 : to_z w32 (of_z w32 c.exit-3.result) ≡ c.exit-3.result = search rules in
    let kept_4 : to_z w32 (of_z w32 c.exit-4.result) ≡ c.exit-4.result = search rules in
    let kept_5 : to_z w32 (of_z w32 c.exit-5.result) ≡ c.exit-5.result = search rules in
    let kept_6 : to_z w32 (of_z w32 c.exit-6.result) ≡ c.exit-6.result = search rules in
    rw (
      kept ∙ c.exit.ensures.made,
      kept_2 ∙ c.exit-2.ensures.made ∙ ap pos (pick-at 1 rooms g _ one),
      kept_3 ∙ c.exit-3.ensures.made ∙ ap pos (pick-at 2 rooms g _ two),
      kept_4 ∙ c.exit-4.ensures.made ∙ ap pos (pick-at 3 rooms g _ three),
      kept_5 ∙ c.exit-5.ensures.made ∙ ap pos (pick-at 4 rooms g _ four),
      kept_6 ∙ c.exit-6.ensures.made ∙ ap pos (pick-at 5 rooms g _ five),
    )

pub returns-clause-next : goal.returns-clause-next
returns-clause-next c =
    let g = c.args.picks.now in
    let two : c.exit-2.new.picks ≡ after 2 g =
    taken 1 1 g _ _ c.exit.ensures.next c.exit-2.ensures.next in
    let three : c.exit-3.new.picks ≡ after 3 g = taken 2 1 g _ _ two c.exit-3.ensures.next in
    let four : c.exit-4.new.picks ≡ after 4 g = taken 3 1 g _ _ three c.exit-4.ensures.next in
    let five : c.exit-5.new.picks ≡ after 5 g = taken 4 1 g _ _ four c.exit-5.ensures.next in
    taken 5 1 g _ _ five c.exit-6.ensures.next
