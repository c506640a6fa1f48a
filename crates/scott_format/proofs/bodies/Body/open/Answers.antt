use Rattle.std.proofs.lemmas.Result.{err_from_is_err_and}
use Rattle.scott_format.proofs.BodySteps.{heads_move, head_stops, news_order, memory_stops}
use Rattle.scott_format.proofs.bodies.Body.open.Goals as goal

pub returns-in_err-head-clause-stopped : goal.returns-in_err-head-clause-stopped
returns-in_err-head-clause-stopped c =
    let p = err_from_is_err_and c.from_residual.result c.from_residual.ensures.1 in
    rw (p.1, p.2) (head_stops c.first.result c.args.scan.now c.read_entry.new.scan c.in_err-head.field-0.0 c.first.ensures c.in_err-head.ensures)

pub returns-clause-opened : goal.returns-clause-opened
returns-clause-opened c =
    heads_move c.first.result c.in_ok-head.head c.args.scan.now c.read_entry.new.scan c.new.result c.in_ok-head.ensures c.new.ensures.value

pub returns-clause-order : goal.returns-clause-order
returns-clause-order c = news_order c.in_ok-head.head c.new.result c.new.ensures.value

pub returns-clause-stopped : goal.returns-clause-stopped
returns-clause-stopped c = memory_stops c.args.scan.now c.read_entry.new.scan c.new.result c.new.ensures.memory
