use Rattle.std.proofs.Common.{Result, sym, ap, subst}
use Rattle.scott_requests.specs.Views.{asked_play, source_of}
use Rattle.scott_tool.specs.Refusal.{Unfit, refusing}
use Rattle.scott_tool.specs.Draws.{draws_from}
use Rattle.scott_tool.specs.Work.{Task}
use Rattle.scott_tool.specs.Plan.{playing_with, playing_from}
use Rattle.scott_tool.specs.Views.{refusal_of, texts_in, number_of}
use Rattle.scott_tool.specs.Obeying.{Obeys}
use Rattle.scott_tool.proofs.Declining.{declined-first}
use Rattle.scott_tool.proofs.Obeying.{obeys-declined}
use Rattle.scott_tool.proofs.commands.play.play_from.Goals as goal

pub returns-in-Ok : goal.returns-in-Ok
returns-in-Ok g c =
    let texts = texts_in c.args.texts.now in
    let given = ap (playing_from (asked_play c.args.asked) c.args.db.now texts)
    (rw c.deref.ensures.value at c.in-Ok.ensures.given) in
    subst (λ (r : Result Task Unfit). Obeys (g.S.Shelf.seen c.args.shelf.now)
    (g.S.Shelf.seen c.play_with.new.shelf) (g.C.Console.seen c.args.console.now)
    (g.C.Console.seen c.play_with.new.console) (refusing r) (number_of c.play_with.result))
    (sym given) c.play_with.ensures

pub returns-in-Err : goal.returns-in-Err
returns-in-Err g c =
    let asked = asked_play c.args.asked in
    let drawn = draws_from (source_of c.args.asked.source) c.args.texts.now.draws.items in
    let texts = texts_in c.args.texts.now in
    obeys-declined (g.C.Console.seen c.args.console.now)
    (g.C.Console.seen c.end.new.console) (number_of c.end.result) (g.S.Shelf.seen c.args.shelf.now)
    (playing_from asked c.args.db.now texts drawn) (refusal_of c.in-Err.refusal)
    (declined-first drawn (playing_with asked c.args.db.now texts)
    (refusal_of c.in-Err.refusal) (rw c.deref.ensures.value at c.in-Err.ensures.given))
    c.end.ensures
