use Rattle.std.proofs.Common.{◌∙◌, Result, Ok, sym, ap, subst}
use Rattle.inform_names.specs.Views.{directives_of}
use Rattle.inform_tree.specs.declared.widths.Width.{Width}
use Rattle.scott_requests.specs.Views.{asked_run}
use Rattle.scott_tool.specs.Refusal.{Unfit, refusing}
use Rattle.scott_tool.specs.Draws.{draws_from}
use Rattle.scott_tool.specs.Work.{Task, step_task}
use Rattle.scott_tool.specs.Plan.{stepping_from}
use Rattle.scott_tool.specs.Views.{refusal_of, number_of}
use Rattle.scott_tool.specs.Obeying.{Obeys}
use Rattle.scott_tool.proofs.Declining.{declined-first}
use Rattle.scott_tool.proofs.Obeying.{obeys-declined}
use Rattle.scott_tool.proofs.commands.step.step_from.Goals as goal

pub returns-in-Ok : goal.returns-in-Ok
returns-in-Ok g c = λ shelf.
    let p = directives_of c.args.accepted.now in
    let given = ap (stepping_from (asked_run c.args.asked) p c.args.pausing)
    (rw c.deref.ensures.value at c.in-Ok.ensures.given) in
    let task : Width → Result Task Unfit =
    λ width. Ok (step_task width p c.args.asked.steps c.args.pausing c.in-Ok.draws.left) in
    let wide = ap task c.requires.width in
    subst (λ (r : Result Task Unfit). Obeys shelf shelf (g.C.Console.seen c.args.console.now)
    (g.C.Console.seen c.step_with.new.console) (refusing r) (number_of c.step_with.result))
    (wide ∙ sym given) (c.step_with.ensures shelf)

pub returns-in-Err : goal.returns-in-Err
returns-in-Err g c = λ shelf.
    let asked = asked_run c.args.asked in
    let p = directives_of c.args.accepted.now in
    let drawn = draws_from asked.source c.args.texts.now.draws.items in
    obeys-declined (g.C.Console.seen c.args.console.now)
    (g.C.Console.seen c.end.new.console) (number_of c.end.result) shelf
    (stepping_from asked p c.args.pausing drawn) (refusal_of c.in-Err.refusal)
    (declined-first drawn (λ draws. Ok (step_task asked.width p asked.steps c.args.pausing draws))
    (refusal_of c.in-Err.refusal) (rw c.deref.ensures.value at c.in-Err.ensures.given))
    c.end.ensures
