use Rattle.std.proofs.Common.{refl}
use Rattle.scott_tool.specs.Views.{number_of}
use Rattle.scott_tool.proofs.Covering.{obeys-covered, obeys-cover_broken}
use Rattle.scott_tool.proofs.commands.cover.cover_with.Goals as goal

pub returns-in-Ok-play : goal.returns-in-Ok-play
returns-in-Ok-play g c = λ shelf.
    let session = c.in-Ok.session in
    obeys-covered c.args.style c.args.db.now c.args.draws.left session.game session.position
    session.state c.args.draws.left session.tried c.in-Ok.ensures.game c.in-Ok.ensures.position
    c.in-Ok.ensures.state refl c.in-Ok.ensures.tried shelf (g.C.Console.seen c.args.console.now)
    (g.C.Console.seen c.play.new.console) c.play.new.self c.args.draws c.play.new.draws
    (g.C.Console.seen c.say_report.new.console) (number_of c.say_report.result)
    c.in-Ok-play.field-0 c.in-Ok-play.ensures.plays c.in-Ok-play.ensures.tried
    c.in-Ok-play.ensures.cause
    (rw c.actions.ensures.value at c.say_report.ensures)

pub returns-in-Ok : goal.returns-in-Ok
returns-in-Ok g c = λ shelf.
    let session = c.in-Ok.session in
    obeys-cover_broken c.args.style c.args.db.now c.args.draws.left session.game session.position
    session.state c.args.draws.left session.tried c.in-Ok.ensures.game c.in-Ok.ensures.position
    c.in-Ok.ensures.state refl c.in-Ok.ensures.tried shelf (g.C.Console.seen c.args.console.now)
    (g.C.Console.seen c.play.new.console) c.play.new.self c.args.draws c.play.new.draws 3
    c.in-Err-play.field-0 refl c.in-Err-play.ensures.plays c.in-Err-play.ensures.cause
