use Rattle.std.proofs.Common.{Result, Ok, sym, ap, subst}
use Rattle.scott_requests.specs.Views.{asked_play}
use Rattle.scott_tool.specs.Steps.{◌>>=◌}
use Rattle.scott_tool.specs.Refusal.{Unfit, refusing}
use Rattle.scott_tool.specs.Work.{Task, play_task}
use Rattle.scott_tool.specs.Plan.{opening_of, playing_with}
use Rattle.scott_tool.specs.Views.{refusal_of, texts_in, number_of}
use Rattle.scott_tool.specs.Obeying.{Obeys}
use Rattle.scott_tool.proofs.Declining.{declined-first}
use Rattle.scott_tool.proofs.Obeying.{obeys-declined}
use Rattle.scott_tool.proofs.commands.play.play_with.Goals as goal

pub returns-in-Ok : goal.returns-in-Ok
returns-in-Ok g c =
    let asked = asked_play c.args.asked in
    let given = ap (λ r. r >>= λ from. Ok (play_task asked.style c.args.db.now from
    c.args.draws.left asked.saved_as)) (rw c.deref.ensures.value at c.in-Ok.ensures.given) in
    subst (λ (r : Result Task Unfit). Obeys (g.S.Shelf.seen c.args.shelf.now)
    (g.S.Shelf.seen c.play_at.new.shelf) (g.C.Console.seen c.args.console.now)
    (g.C.Console.seen c.play_at.new.console) (refusing r) (number_of c.play_at.result))
    (sym given) c.play_at.ensures

pub returns-in-Err : goal.returns-in-Err
returns-in-Err g c =
    let asked = asked_play c.args.asked in
    let texts = texts_in c.args.texts.now in
    obeys-declined (g.C.Console.seen c.args.console.now)
    (g.C.Console.seen c.end.new.console) (number_of c.end.result) (g.S.Shelf.seen c.args.shelf.now)
    (playing_with asked c.args.db.now texts c.args.draws.left) (refusal_of c.in-Err.refusal)
    (declined-first (opening_of asked.opened_from c.args.db.now texts.position)
    (λ from. Ok (play_task asked.style c.args.db.now from c.args.draws.left asked.saved_as))
    (refusal_of c.in-Err.refusal) (rw c.deref.ensures.value at c.in-Err.ensures.given))
    c.end.ensures
