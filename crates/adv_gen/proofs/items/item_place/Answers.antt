use Rattle.std.proofs.Common.{◌≡◌, ◌∙◌, sym, eqb, false}
use Rattle.adv_gen.specs.Items.{item_place}
use Rattle.adv_gen.proofs.Picking.{none_taken}
use Rattle.adv_gen.proofs.Words.{not_equal}
use Rattle.adv_gen.proofs.items.item_place.Goals as goal

pub returns-then-from-eq-LAMP-clause-made : goal.returns-then-from-eq-LAMP-clause-made
unfolding item_place
returns-then-from-eq-LAMP-clause-made c =
    let is : c.args.k ≡ 9 = sym c.from.ensures ∙ c.if-from-eq-LAMP.true in
    rw is

pub returns-then-from-eq-LAMP-clause-next : goal.returns-then-from-eq-LAMP-clause-next
returns-then-from-eq-LAMP-clause-next c =
    let is : c.args.k ≡ 9 = sym c.from.ensures ∙ c.if-from-eq-LAMP.true in
    rw is (none_taken c.args.picks.now)

pub returns-else-from-eq-LAMP-clause-made : goal.returns-else-from-eq-LAMP-clause-made
unfolding item_place
returns-else-from-eq-LAMP-clause-made c =
    let other : eqb c.args.k 9 ≡ false =
    not_equal c.args.k 9 (λ e. c.if-from-eq-LAMP.false (c.from.ensures ∙ e)) in
    rw other c.pick.ensures.value
