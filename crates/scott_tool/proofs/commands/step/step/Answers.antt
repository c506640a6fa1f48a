use Rattle.std.proofs.Common.{List, Result, sym, ap, subst}
use Rattle.inform_tree.specs.Programs.{DirectiveTree}
use Rattle.scott_requests.specs.Request.{step}
use Rattle.scott_requests.specs.Views.{asked_step}
use Rattle.scott_tool.specs.Steps.{◌>>=◌}
use Rattle.scott_tool.specs.Refusal.{Unfit, refusing}
use Rattle.scott_tool.specs.Run.{program_of_file}
use Rattle.scott_tool.specs.Work.{Task}
use Rattle.scott_tool.specs.Plan.{stepping_with, work}
use Rattle.scott_tool.specs.Views.{refusal_of, texts_in, number_of}
use Rattle.scott_tool.specs.Obeying.{Obeys}
use Rattle.scott_tool.proofs.Declining.{declined-first}
use Rattle.scott_tool.proofs.Obeying.{obeys-declined}
use Rattle.scott_tool.proofs.commands.step.step.Goals as goal

pub returns : goal.returns
returns g c = λ shelf.
    let asked = asked_step c.args.asked in
    let draws = c.args.texts.now.draws.items in
    let given = ap (λ r. r >>= λ p. stepping_with asked p draws)
    (rw c.deref.ensures.value at c.in-Ok.ensures.given) in
    subst (λ (r : Result Task Unfit). Obeys shelf shelf (g.C.Console.seen c.args.console.now)
    (g.C.Console.seen c.step_on-status.new.console) (refusing r)
    (number_of c.step_on-status.result))
    (sym given) (c.step_on-status.ensures shelf)

pub returns-in-Err : goal.returns-in-Err
returns-in-Err g c = λ shelf.
    let asked = asked_step c.args.asked in
    let draws = c.args.texts.now.draws.items in
    obeys-declined (g.C.Console.seen c.args.console.now)
    (g.C.Console.seen c.end.new.console) (number_of c.end.result) shelf
    (work (step asked) (texts_in c.args.texts.now)) (refusal_of c.in-Err.refusal)
    (declined-first (program_of_file asked.run.width asked.run.program c.args.texts.now.main.items)
    (λ (p : List DirectiveTree). stepping_with asked p draws) (refusal_of c.in-Err.refusal)
    (rw c.deref.ensures.value at c.in-Err.ensures.given)) c.end.ensures
