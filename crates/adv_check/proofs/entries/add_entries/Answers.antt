use Rattle.std.proofs.Common.{arith}
use Rattle.adv_check.proofs.Joined.{one_more}
use Rattle.adv_check.proofs.entries.add_entries.Goals as goal

pub loop-index-preserved : goal.loop-index-preserved
loop-index-preserved g c =
    let i = c.loop-index.index in
    one_more (g.E.Warned.sites c.args.db.now) c.args.entries.now 0 i i c.index-entries-index.result c.index-entries-index.result
    c.args.found.now.items c.loop-index.found.items c.add_warnings.new.found.items (omega arith) (omega arith) c.index-entries-index.is
    c.loop-index.invariant c.in_ok-add_warnings.ensures
