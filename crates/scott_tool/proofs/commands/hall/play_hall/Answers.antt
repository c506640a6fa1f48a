use Rattle.std.proofs.Common.{Result, Ok, sym, ap, subst}
use Rattle.scott_types.specs.Database.{Database}
use Rattle.scott_requests.specs.Request.{hall}
use Rattle.scott_tool.specs.Steps.{◌>>=◌}
use Rattle.scott_tool.specs.Refusal.{Unfit, refusing}
use Rattle.scott_tool.specs.Check.{database_of_file}
use Rattle.scott_tool.specs.Work.{Task, hall_task}
use Rattle.scott_tool.specs.Plan.{work}
use Rattle.scott_tool.specs.Views.{refusal_of, texts_with, number_of}
use Rattle.scott_tool.specs.Obeying.{Obeys}
use Rattle.scott_tool.proofs.Declining.{declined-first}
use Rattle.scott_tool.proofs.Obeying.{obeys-declined}
use Rattle.scott_tool.proofs.commands.hall.play_hall.Goals as goal

pub returns-in-Ok : goal.returns-in-Ok
returns-in-Ok g c = λ bytes has shelf.
    let given = ap (λ r. r >>= λ db. Ok (hall_task db c.args.count))
    (c.in-Ok.ensures bytes has) in
    subst (λ (r : Result Task Unfit). Obeys shelf shelf (g.C.Console.seen c.args.console.now)
    (g.C.Console.seen c.play_sessions.new.console) (refusing r)
    (number_of c.play_sessions.result))
    (sym given) (c.play_sessions.ensures shelf)

pub returns-in-Err : goal.returns-in-Err
returns-in-Err g c = λ bytes has shelf.
    obeys-declined (g.C.Console.seen c.args.console.now)
    (g.C.Console.seen c.end.new.console) (number_of c.end.result) shelf
    (work (hall c.args.game.now c.args.count) (texts_with c.args.texts.now bytes))
    (refusal_of c.in-Err.refusal)
    (declined-first (database_of_file c.args.game.now bytes)
    (λ (db : Database). Ok (hall_task db c.args.count)) (refusal_of c.in-Err.refusal)
    (c.in-Err.ensures bytes has)) c.end.ensures
