use Rattle.std.proofs.Common.{◌≡◌, ◌∙◌, to_z, of_z, w32, rules}
use Rattle.adv_check.proofs.Naming.{exit_named}
use Rattle.adv_check.proofs.faults.exit_fault.Goals as goal

pub returns-then-exit-ge0 : goal.returns-then-exit-ge0
returns-then-exit-ge0 c =
    let exit : to_z w32 (of_z w32 c.args.exit) ≡ c.args.exit = search rules in
    (rw exit at c.naming_fault.ensures) ∙ exit_named c.args.db.now c.args.exit (rw exit at c.if-exit-ge0.true)
