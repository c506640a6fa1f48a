use Rattle.std.proofs.Common.{◌∙◌, Result, sym, ap, subst}
use Rattle.scott_types.specs.Database.{Database}
use Rattle.scott_requests.specs.Request.{play}
use Rattle.scott_requests.specs.Views.{asked_play, source_of}
use Rattle.scott_tool.specs.Steps.{◌>>=◌}
use Rattle.scott_tool.specs.Refusal.{Unfit, refusing}
use Rattle.scott_tool.specs.Check.{database_of_file}
use Rattle.scott_tool.specs.Draws.{draws_from}
use Rattle.scott_tool.specs.Work.{Task}
use Rattle.scott_tool.specs.Plan.{playing_from, work}
use Rattle.scott_tool.specs.Views.{refusal_of, texts_with, number_of}
use Rattle.scott_tool.specs.Obeying.{Declines, Obeys}
use Rattle.scott_tool.proofs.Declining.{declined-first}
use Rattle.scott_tool.proofs.Obeying.{obeys-declined}
use Rattle.scott_tool.proofs.Opening.{work-play}
use Rattle.scott_tool.proofs.commands.play.play.Goals as goal

pub returns-in-Ok : goal.returns-in-Ok
returns-in-Ok g c = λ bytes has.
    let drawn = draws_from (source_of c.args.asked.source) c.args.texts.now.draws.items in
    let texts = texts_with c.args.texts.now bytes in
    let whole = work-play (asked_play c.args.asked) texts in
    let given = ap (λ r. r >>= λ db. playing_from (asked_play c.args.asked) db texts drawn)
    (c.in-Ok.ensures bytes has) in
    subst (λ (r : Result Task Unfit). Obeys (g.S.Shelf.seen c.args.shelf.now)
    (g.S.Shelf.seen c.play_from.new.shelf) (g.C.Console.seen c.args.console.now)
    (g.C.Console.seen c.play_from.new.console) (refusing r)
    (number_of c.play_from.result))
    (sym (whole ∙ given)) c.play_from.ensures

pub returns-in-Err : goal.returns-in-Err
returns-in-Err g c = λ bytes has.
    let drawn = draws_from (source_of c.args.asked.source) c.args.texts.now.draws.items in
    let texts = texts_with c.args.texts.now bytes in
    obeys-declined (g.C.Console.seen c.args.console.now)
    (g.C.Console.seen c.end.new.console) (number_of c.end.result) (g.S.Shelf.seen c.args.shelf.now)
    (work (play (asked_play c.args.asked)) texts) (refusal_of c.in-Err.refusal)
    (subst (λ (r : Result Task Unfit). Declines r (refusal_of c.in-Err.refusal))
    (sym (work-play (asked_play c.args.asked) texts))
    (declined-first (database_of_file c.args.asked.game.now bytes)
    (λ (db : Database). playing_from (asked_play c.args.asked) db texts drawn)
    (refusal_of c.in-Err.refusal) (c.in-Err.ensures bytes has))) c.end.ensures
