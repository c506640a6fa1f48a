use Rattle.std.proofs.Common.{arith}
use Rattle.adv_decompiler.proofs.Texts.{step_lines}
use Rattle.adv_decompiler.proofs.lists.put_lines.Goals as goal

pub loop-entry-preserved : goal.loop-entry-preserved
loop-entry-preserved g c = (
  omega arith,
  step_lines (g.L.Line.line c.args.sizes.now) c.args.entries.now c.loop-entry.entry-index c.loop-entry.number c.entry-item.result c.entry-item.result
      c.args.out.now.items c.loop-entry.out.items c.put.new.out.items c.loop-entry-test.true c.loop-entry.invariant.0 c.entry-item.is c.loop-entry.invariant.1
      c.in_ok-put.ensures,
)
