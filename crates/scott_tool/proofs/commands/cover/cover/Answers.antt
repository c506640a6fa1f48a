use Rattle.std.proofs.Common.{Result, sym, ap, subst}
use Rattle.scott_types.specs.Database.{Database}
use Rattle.scott_requests.specs.Request.{cover}
use Rattle.scott_requests.specs.Views.{asked_cover, source_of}
use Rattle.scott_tool.specs.Steps.{◌>>=◌}
use Rattle.scott_tool.specs.Refusal.{Unfit, refusing}
use Rattle.scott_tool.specs.Check.{database_of_file}
use Rattle.scott_tool.specs.Draws.{draws_from}
use Rattle.scott_tool.specs.Work.{Task}
use Rattle.scott_tool.specs.Plan.{covering_from, work}
use Rattle.scott_tool.specs.Views.{refusal_of, texts_with, number_of}
use Rattle.scott_tool.specs.Obeying.{Obeys}
use Rattle.scott_tool.proofs.Declining.{declined-first}
use Rattle.scott_tool.proofs.Obeying.{obeys-declined}
use Rattle.scott_tool.proofs.commands.cover.cover.Goals as goal

pub returns-in-Ok : goal.returns-in-Ok
returns-in-Ok g c = λ bytes has shelf.
    let drawn = draws_from (source_of c.args.asked.source) c.args.texts.now.draws.items in
    let given = ap (λ r. r >>= λ db. covering_from c.args.asked.style db drawn)
    (c.in-Ok.ensures bytes has) in
    subst (λ (r : Result Task Unfit). Obeys shelf shelf (g.C.Console.seen c.args.console.now)
    (g.C.Console.seen c.cover_from.new.console) (refusing r)
    (number_of c.cover_from.result))
    (sym given) (c.cover_from.ensures shelf)

pub returns-in-Err : goal.returns-in-Err
returns-in-Err g c = λ bytes has shelf.
    let drawn = draws_from (source_of c.args.asked.source) c.args.texts.now.draws.items in
    obeys-declined (g.C.Console.seen c.args.console.now)
    (g.C.Console.seen c.end.new.console) (number_of c.end.result) shelf
    (work (cover (asked_cover c.args.asked)) (texts_with c.args.texts.now bytes))
    (refusal_of c.in-Err.refusal)
    (declined-first (database_of_file c.args.asked.game.now bytes)
    (λ (db : Database). covering_from c.args.asked.style db drawn)
    (refusal_of c.in-Err.refusal) (c.in-Err.ensures bytes has)) c.end.ensures
