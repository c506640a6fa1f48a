use Rattle.std.proofs.Common.{refl}
use Rattle.scott_tool.specs.Views.{number_of}
use Rattle.scott_tool.proofs.Calling.{obeys-counted, obeys-uncounted}
use Rattle.scott_tool.proofs.commands.calls.count_with.Goals as goal

pub returns-in-Ok-count_calls : goal.returns-in-Ok-count_calls
returns-in-Ok-count_calls g c = λ shelf.
    let ran = c.in-Ok-count_calls in
    let opens = c.in-Ok.ensures in
    obeys-counted shelf (g.C.Console.seen c.args.console.now)
    (g.C.Console.seen c.count_calls.new.console) c.args.accepted.now c.in-Ok.runner
    c.count_calls.new.runner c.args.draws c.count_calls.new.draws c.args.steps
    c.args.counts.now
    (record { program = opens.program; begun = opens.begun; world = opens.world })
    c.entered_from_opening.ensures c.requires
    (g.C.Console.seen c.say_end.new.console) (number_of c.say_end.result) ran.stop
    c.count_calls.new.counts ran.ensures.runs ran.ensures.counts ran.ensures.cause
    c.say_end.ensures

pub returns-in-Ok : goal.returns-in-Ok
returns-in-Ok g c = λ shelf.
    let failed = c.in-Err-count_calls in
    let opens = c.in-Ok.ensures in
    obeys-uncounted shelf (g.C.Console.seen c.args.console.now)
    (g.C.Console.seen c.count_calls.new.console) c.args.accepted.now c.in-Ok.runner
    c.count_calls.new.runner c.args.draws c.count_calls.new.draws c.args.steps
    c.args.counts.now
    (record { program = opens.program; begun = opens.begun; world = opens.world })
    c.entered_from_opening.ensures c.requires
    failed.field-0 3 failed.ensures.runs failed.ensures.cause refl
