use Rattle.scott_tool.proofs.Halls.{next-broken}
use Rattle.scott_tool.proofs.commands.hall.hear_next.Goals as goal

pub returns-in-Err-answer-clause-hears : goal.returns-in-Err-answer-clause-hears
returns-in-Err-answer-clause-hears g c = λ db before alone.
    let seen = g.C.Console.seen in
    let got = rw c.in-Ok-Got.field-0-is at c.in-Ok-Got.ensures in
    next-broken (seen c.args.console.now) (seen c.take.new.self) (seen c.answer.new.console) db
    c.args.count before c.take.new.line c.answer.new.hall.seats c.in-Err-answer.fault got.lines
    got.taken got.bounded got.cause (c.in-Err-answer.ensures.answers db before alone)
