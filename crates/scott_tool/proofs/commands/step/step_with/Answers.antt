use Rattle.std.proofs.Common.{◌≡◌, ℕ, MatchResult, refl, subst}
use Rattle.scott_tool.specs.Views.{number_of}
use Rattle.scott_tool.proofs.Stepping.{obeys-stepped, obeys-step_failed}
use Rattle.scott_tool.proofs.commands.step.step_with.Goals as goal

pub returns-in-Ok-run_with_pauses : goal.returns-in-Ok-run_with_pauses
returns-in-Ok-run_with_pauses g c = λ shelf.
    let ran = c.in-Ok-run_with_pauses in
    let opens = c.in-Ok.ensures in
    obeys-stepped shelf (g.C.Console.seen c.args.console.now)
    (g.C.Console.seen c.run_with_pauses.new.console) (number_of c.concluded.result)
    c.args.accepted.now c.in-Ok.runner _ c.args.draws _ c.args.steps c.args.pausing opens.program
    opens.begun opens.world opens.used (g.C.Console.seen c.say_stop.new.console) ran.stop
    c.say_stop.result ran.ensures.runs ran.ensures.cause c.say_stop.ensures
    (subst (λ (n : ℕ). MatchResult c.say_stop.result (λ _. (number_of c.concluded.result) ≡ n)
    (λ _. (number_of c.concluded.result) ≡ 3)) c.stop_status.ensures c.concluded.ensures)

pub returns-in-Ok : goal.returns-in-Ok
returns-in-Ok g c = λ shelf.
    let failed = c.in-Err-run_with_pauses in
    let opens = c.in-Ok.ensures in
    obeys-step_failed shelf (g.C.Console.seen c.args.console.now)
    (g.C.Console.seen c.run_with_pauses.new.console) 3 c.args.accepted.now c.in-Ok.runner _
    c.args.draws _ c.args.steps c.args.pausing opens.program opens.begun opens.world opens.used
    failed.field-0 failed.ensures.runs failed.ensures.cause refl
