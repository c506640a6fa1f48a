use Rattle.std.proofs.Common.{◌∙◌}
use Rattle.scott_tool.proofs.Halls.{one-heard, obeys-heard, obeys-cut}
use Rattle.scott_tool.proofs.commands.hall.play_sessions.Goals as goal

pub loop-hall-preserved : goal.loop-hall-preserved
loop-hall-preserved g c =
    let seen = g.C.Console.seen in
    let so_far = c.loop-hall.invariant in
    let heard = c.in-Ok-Got.ensures.hears c.args.db.now so_far.heard.before so_far.heard.alone in
    let next = rw c.in-Ok-Got.field-0-is at heard in
    record {
      seats = c.in-Ok-Got.ensures.seats;
      whole = c.in-Ok-Got.ensures.whole;
      steady = next.cause.steady ∙ so_far.steady;
      heard = one-heard (seen c.args.console.now) (seen c.loop-hall.console)
          (seen c.hear_next.new.console) c.args.db.now c.args.count c.loop-hall.hall.seats
          c.hear_next.new.hall.seats so_far.heard next;
    }

pub returns-in-Ok-End : goal.returns-in-Ok-End
returns-in-Ok-End g c = λ shelf.
    let seen = g.C.Console.seen in
    let so_far = c.loop-hall.invariant in
    let heard = c.in-Ok-End.ensures.hears c.args.db.now so_far.heard.before so_far.heard.alone in
    obeys-heard (seen c.args.console.now) (seen c.loop-hall.console)
    (seen c.hear_next.new.console) c.args.db.now c.args.count c.loop-hall.hall.seats
    c.hear_next.new.hall.seats so_far.heard shelf so_far.steady
    (rw c.in-Ok-End.field-0-is at heard)

pub returns-in-Err-hear_next : goal.returns-in-Err-hear_next
returns-in-Err-hear_next g c = λ shelf.
    let seen = g.C.Console.seen in
    let so_far = c.loop-hall.invariant in
    obeys-cut (seen c.args.console.now) (seen c.loop-hall.console)
    (seen c.hear_next.new.console) c.args.db.now c.args.count c.loop-hall.hall.seats
    c.hear_next.new.hall.seats so_far.heard shelf c.in-Err-hear_next.field-0 so_far.steady
    (c.in-Err-hear_next.ensures.hears c.args.db.now so_far.heard.before so_far.heard.alone)
