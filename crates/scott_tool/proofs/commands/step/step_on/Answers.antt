use Rattle.std.proofs.Common.{◌∙◌, Result, sym, ap, subst}
use Rattle.inform_names.specs.Views.{directives_of}
use Rattle.inform_stepper.specs.declared.repeats.Pausing.{Pausing}
use Rattle.inform_tree.specs.declared.widths.Width.{Width}
use Rattle.scott_requests.specs.Views.{asked_step}
use Rattle.scott_tool.specs.Steps.{◌>>=◌}
use Rattle.scott_tool.specs.Refusal.{Unfit, refusing}
use Rattle.scott_tool.specs.Draws.{draws_from}
use Rattle.scott_tool.specs.Step.{pausing_of_program}
use Rattle.scott_tool.specs.Work.{Task}
use Rattle.scott_tool.specs.Plan.{stepping_from, stepping_with}
use Rattle.scott_tool.specs.Views.{refusal_of, number_of}
use Rattle.scott_tool.specs.Obeying.{Obeys}
use Rattle.scott_tool.proofs.Declining.{declined-first}
use Rattle.scott_tool.proofs.Obeying.{obeys-declined}
use Rattle.scott_tool.proofs.commands.step.step_on.Goals as goal

pub returns-in-Ok : goal.returns-in-Ok
returns-in-Ok g c = λ shelf.
    let asked = asked_step c.args.asked in
    let p = directives_of c.args.accepted.now in
    let drawn = draws_from asked.run.source c.args.texts.now.draws.items in
    let given = ap (λ r. r >>= λ q. stepping_from asked.run p q drawn)
    (ap (λ (width : Width). pausing_of_program width asked.run.program p asked.pause)
    (sym c.requires.width) ∙ c.in-Ok.ensures.given) in
    subst (λ (r : Result Task Unfit). Obeys shelf shelf (g.C.Console.seen c.args.console.now)
    (g.C.Console.seen c.step_from.new.console) (refusing r) (number_of c.step_from.result))
    (sym given) (c.step_from.ensures shelf)

pub returns-in-Err : goal.returns-in-Err
returns-in-Err g c = λ shelf.
    let asked = asked_step c.args.asked in
    let p = directives_of c.args.accepted.now in
    let drawn = draws_from asked.run.source c.args.texts.now.draws.items in
    let found = pausing_of_program asked.run.width asked.run.program p asked.pause in
    obeys-declined (g.C.Console.seen c.args.console.now)
    (g.C.Console.seen c.end.new.console) (number_of c.end.result) shelf
    (stepping_with asked p c.args.texts.now.draws.items) (refusal_of c.in-Err.refusal)
    (declined-first found (λ (q : Pausing). stepping_from asked.run p q drawn)
    (refusal_of c.in-Err.refusal) (rw c.requires.width at c.in-Err.ensures.given)) c.end.ensures
