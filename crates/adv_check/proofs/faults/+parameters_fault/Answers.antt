use Rattle.std.proofs.Common.{◌∙◌}
use Rattle.adv_check.proofs.Naming.{next_parameter}
use Rattle.adv_check.proofs.faults.+parameters_fault.Goals as goal

pub returns-in-len1-up-left : goal.returns-in-len1-up-left
returns-in-len1-up-left t c =
    (rw (c.naming_fault.ensures, c.parameters_fault.ensures) at c.or.ensures)
    ∙ next_parameter c.args.db.now c.args.kinds.now c.args.left.now _ c.in-len1-up.len_at_least c.in-len1-up-left.len_at_least
