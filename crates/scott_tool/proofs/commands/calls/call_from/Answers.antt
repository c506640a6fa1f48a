use Rattle.std.proofs.Common.{Result, Ok, sym, ap, subst}
use Rattle.inform_names.specs.Views.{directives_of}
use Rattle.scott_requests.specs.Views.{source_of}
use Rattle.scott_tool.specs.Refusal.{Unfit, refusing}
use Rattle.scott_tool.specs.Draws.{draws_from}
use Rattle.scott_tool.specs.Work.{Task, calls_task}
use Rattle.scott_tool.specs.Plan.{calling_from}
use Rattle.scott_tool.specs.Views.{refusal_of, number_of}
use Rattle.scott_tool.specs.Obeying.{Obeys}
use Rattle.scott_tool.proofs.Declining.{declined-first}
use Rattle.scott_tool.proofs.Obeying.{obeys-declined}
use Rattle.scott_tool.proofs.commands.calls.call_from.Goals as goal

pub returns-in-Ok : goal.returns-in-Ok
returns-in-Ok g c = λ shelf.
    let accepted = c.args.accepted.now in
    let given = ap (calling_from accepted.width (directives_of accepted) c.args.steps)
    (rw c.deref.ensures.value at c.in-Ok.ensures.given) in
    subst (λ (r : Result Task Unfit). Obeys shelf shelf (g.C.Console.seen c.args.console.now)
    (g.C.Console.seen c.call_with.new.console) (refusing r) (number_of c.call_with.result))
    (sym given) (c.call_with.ensures shelf)

pub returns-in-Err : goal.returns-in-Err
returns-in-Err g c = λ shelf.
    let accepted = c.args.accepted.now in
    let drawn = draws_from (source_of c.args.source) c.args.texts.now.draws.items in
    obeys-declined (g.C.Console.seen c.args.console.now)
    (g.C.Console.seen c.end.new.console) (number_of c.end.result) shelf
    (calling_from accepted.width (directives_of accepted) c.args.steps drawn)
    (refusal_of c.in-Err.refusal)
    (declined-first drawn (λ draws. Ok (calls_task accepted.width
    (directives_of accepted) c.args.steps draws)) (refusal_of c.in-Err.refusal)
    (rw c.deref.ensures.value at c.in-Err.ensures.given)) c.end.ensures
