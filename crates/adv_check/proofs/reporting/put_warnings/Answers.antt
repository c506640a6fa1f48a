use Rattle.std.proofs.Common.{arith}
use Rattle.adv_check.specs.Report.{warning_text}
use Rattle.adv_check.proofs.Joined.{one_more_text}
use Rattle.adv_check.proofs.reporting.put_warnings.Goals as goal

pub loop-warning-preserved : goal.loop-warning-preserved
loop-warning-preserved c =
    one_more_text warning_text c.args.found.now c.loop-warning.warning-index _ c.args.out.now.items c.loop-warning.out.items c.put_warning.new.out.items
    (omega arith) c.loop-warning.invariant c.in_ok-put_warning.ensures
