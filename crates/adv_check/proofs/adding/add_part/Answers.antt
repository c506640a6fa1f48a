use Rattle.std.proofs.Common.{◌+◌, [], ◌∷◌, None, arith, refl}
use Rattle.adv_check.proofs.Joined.{one_more}
use Rattle.adv_check.proofs.adding.add_part.Goals as goal

pub loop-i-preserved : goal.loop-i-preserved
loop-i-preserved c =
    let i = c.loop-i.i in
    one_more (λ place fault. record { part = c.args.part; index = c.args.index; place = place; fault = fault } ∷ []) c.args.faults.now 1 i (i + 1) _ None
    c.args.found.now.items c.loop-i.found.items c.add.new.found.items (omega arith) (omega arith) refl c.loop-i.invariant c.in_ok-add.ensures
