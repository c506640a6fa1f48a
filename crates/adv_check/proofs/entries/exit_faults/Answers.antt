use Rattle.std.proofs.Common.{◌≡◌, ◌∙◌, pos, get_or, to_z, of_z, w32, ap, arith, rules}
use Rattle.adv_check.specs.Faults.{exit_fault}
use Rattle.adv_check.proofs.Joined.{one_more_given}
use Rattle.adv_check.proofs.entries.exit_faults.Goals as goal

pub loop-exit-preserved : goal.loop-exit-preserved
loop-exit-preserved c =
    let exit = get_or c.args.exits.now c.loop-exit.exit-index (pos 0) in
    let same : to_z w32 (of_z w32 exit) ≡ exit = search rules in
    record {
      faults = one_more_given (exit_fault c.args.db.now) c.args.exits.now c.loop-exit.exit-index (pos 0) c.loop-exit.faults.items c.push.new.self.items c.exit_fault.result
          (omega arith) (c.exit_fault.ensures ∙ ap (exit_fault c.args.db.now) same) c.loop-exit.invariant.faults c.push.ensures.items;
      count = omega arith;
    }
