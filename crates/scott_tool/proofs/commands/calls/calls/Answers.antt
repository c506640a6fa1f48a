use Rattle.std.proofs.Common.{◌∙◌, List, Result, sym, ap, subst}
use Rattle.inform_tree.specs.declared.widths.Width.{Width}
use Rattle.inform_tree.specs.Programs.{DirectiveTree}
use Rattle.inform_names.specs.Views.{directives_of}
use Rattle.scott_requests.specs.Request.{calls}
use Rattle.scott_requests.specs.Views.{asked_run, source_of}
use Rattle.scott_tool.specs.Steps.{◌>>=◌}
use Rattle.scott_tool.specs.Refusal.{Unfit, refusing}
use Rattle.scott_tool.specs.Run.{program_of_file}
use Rattle.scott_tool.specs.Draws.{draws_from}
use Rattle.scott_tool.specs.Work.{Task}
use Rattle.scott_tool.specs.Plan.{calling_from, work}
use Rattle.scott_tool.specs.Views.{refusal_of, texts_in, number_of}
use Rattle.scott_tool.specs.Obeying.{Obeys}
use Rattle.scott_tool.proofs.Declining.{declined-first}
use Rattle.scott_tool.proofs.Obeying.{obeys-declined}
use Rattle.scott_tool.proofs.commands.calls.calls.Goals as goal

pub returns : goal.returns
returns g c = λ shelf.
    let drawn = draws_from (source_of c.args.asked.source) c.args.texts.now.draws.items in
    let given = ap (λ r. r >>= λ p. calling_from c.args.asked.width p c.args.asked.steps drawn)
    (rw c.deref.ensures.value at c.in-Ok.ensures.given) in
    let wide = ap (λ (width : Width). calling_from width
    (directives_of c.in-Ok.accepted) c.args.asked.steps drawn) c.in-Ok.ensures.width in
    subst (λ (r : Result Task Unfit). Obeys shelf shelf (g.C.Console.seen c.args.console.now)
    (g.C.Console.seen c.call_from-status.new.console) (refusing r)
    (number_of c.call_from-status.result))
    (wide ∙ sym given) (c.call_from-status.ensures shelf)

pub returns-in-Err : goal.returns-in-Err
returns-in-Err g c = λ shelf.
    let drawn = draws_from (source_of c.args.asked.source) c.args.texts.now.draws.items in
    obeys-declined (g.C.Console.seen c.args.console.now)
    (g.C.Console.seen c.end.new.console) (number_of c.end.result) shelf
    (work (calls (asked_run c.args.asked))
    (texts_in c.args.texts.now)) (refusal_of c.in-Err.refusal)
    (declined-first
    (program_of_file c.args.asked.width c.args.asked.program.now c.args.texts.now.main.items)
    (λ (p : List DirectiveTree). calling_from c.args.asked.width p c.args.asked.steps drawn)
    (refusal_of c.in-Err.refusal)
    (rw c.deref.ensures.value at c.in-Err.ensures.given)) c.end.ensures
