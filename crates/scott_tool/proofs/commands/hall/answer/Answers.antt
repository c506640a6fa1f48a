use Rattle.std.proofs.Common.{sym}
use Rattle.scott_tool.proofs.Halls.{session-answered, session-failed, nobody-answered}
use Rattle.scott_tool.proofs.commands.hall.answer.Goals as goal

pub returns-in-Ok-clause-answers : goal.returns-in-Ok-clause-answers
returns-in-Ok-clause-answers g c = λ db before alone.
    let seen = g.C.Console.seen in
    session-answered (seen c.args.console.now) (seen c.line.new.console) db c.args.count before
    c.args.line.now c.args.hall.now alone c.hall_goes_on_alone.ensures c.each_hears_alone.ensures
    c.in-Some.address (sym c.in-Some.ensures.value) c.in-Ok.field-0 c.line.new.self.seats
    c.in-Ok.ensures.spoken c.in-Ok.ensures.after

pub returns-in-Err-clause-answers : goal.returns-in-Err-clause-answers
returns-in-Err-clause-answers g c = λ db before alone.
    let seen = g.C.Console.seen in
    session-failed (seen c.args.console.now) (seen c.line.new.console) db c.args.count before
    c.args.line.now c.args.hall.now alone c.hall_goes_on_alone.ensures c.each_hears_alone.ensures
    c.in-Some.address (sym c.in-Some.ensures.value) c.in-Err.fault c.line.new.self.seats
    c.in-Err.ensures.spoken

pub returns-in-None-clause-answers : goal.returns-in-None-clause-answers
returns-in-None-clause-answers g c = λ db before alone.
    let seen = g.C.Console.seen in
    nobody-answered (seen c.args.console.now) (seen c.say.new.self) db c.args.count before
    c.args.line.now c.args.hall.now alone c.hall_goes_on_alone.ensures c.say.result
    (sym c.in-None.ensures.value) (rw c.no_session.ensures at c.say.ensures)
