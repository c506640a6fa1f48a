use Rattle.std.specs.List.{flat_map}
use Rattle.adv_check.specs.Report.{summary_text, warning_text, total_text}
use Rattle.adv_check.specs.Sites.{warnings}
use Rattle.adv_check.proofs.Joined.{three_written}
use Rattle.adv_check.proofs.reporting.report.Goals as goal

pub returns : goal.returns
returns c =
    let db = c.args.db.now in
    three_written c.new-out.result.items c.put_summary.new.out.items c.put_warnings.new.out.items c.put_total.new.out.items
    (summary_text db) (flat_map warning_text (warnings db)) (total_text (warnings db)) c.new-out.ensures.items c.in_ok-put_summary.ensures
    (rw (c.deref.ensures.value, c.in_ok-found.ensures) at c.in_ok-put_warnings.ensures)
    (rw (c.deref-2.ensures.value, c.in_ok-found.ensures) at c.in_ok-put_total.ensures)
