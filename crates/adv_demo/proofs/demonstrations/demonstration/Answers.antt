use Rattle.std.proofs.Common.{◌*◌, ◌≤◌, arith}
use Rattle.std.proofs.lemmas.List.FromFn.{length-map-range_with_len}
use Rattle.adv_demo.proofs.demonstrations.demonstration.Goals as goal

pub demonstrate-requires-clause-few : goal.demonstrate-requires-clause-few
demonstrate-requires-clause-few c =
    let small : c.args.n ≤ 120 = c.requires.small in
    rw (
      c.deref.ensures.value,
      c.in_ok-db.ensures.lines,
      length-map-range_with_len _ 0 (10 * c.args.n),
    ) (omega arith)
