use Rattle.std.proofs.Common.{◌≡◌, ℕ, MatchResult, refl, subst}
use Rattle.scott_tool.specs.Views.{number_of}
use Rattle.scott_tool.proofs.Running.{obeys-stopped, obeys-broken}
use Rattle.scott_tool.proofs.commands.run.run_with.Goals as goal

pub returns-in-Ok-run : goal.returns-in-Ok-run
returns-in-Ok-run g c = λ shelf.
    let ran = c.in-Ok-run in
    obeys-stopped shelf (g.C.Console.seen c.args.console.now)
    (g.C.Console.seen c.run.new.console) (number_of c.concluded.result) c.args.accepted.now
    c.in-Ok.runner _ c.args.draws _ c.args.steps c.in-Ok.ensures.program c.in-Ok.ensures.begun
    c.in-Ok.ensures.world
    (g.C.Console.seen c.say_stop.new.console) ran.stop c.say_stop.result ran.ensures.runs
    ran.ensures.cause c.say_stop.ensures
    (subst (λ (n : ℕ). MatchResult c.say_stop.result (λ _. (number_of c.concluded.result) ≡ n)
    (λ _. (number_of c.concluded.result) ≡ 3)) c.stop_status.ensures c.concluded.ensures)

pub returns-in-Ok : goal.returns-in-Ok
returns-in-Ok g c = λ shelf.
    let failed = c.in-Err-run in
    obeys-broken shelf (g.C.Console.seen c.args.console.now)
    (g.C.Console.seen c.run.new.console) 3 c.args.accepted.now
    c.in-Ok.runner _ c.args.draws _ c.args.steps c.in-Ok.ensures.program c.in-Ok.ensures.begun
    c.in-Ok.ensures.world
    failed.field-0 failed.ensures.runs failed.ensures.cause refl
