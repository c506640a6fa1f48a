use Rattle.std.proofs.Common.{rules}
use Rattle.inform_run.specs.Runners.{world_in}
use Rattle.inform_stepper.proofs.PauseLines.{heading_fails, values_fail, line_said}
use Rattle.inform_stepper.proofs.lines.say_pause.Goals as goal

pub returns-in_err-say_heading : goal.returns-in_err-say_heading
returns-in_err-say_heading g c =
    heading_fails (world_in c.args.runner.now) c.args.program.now.program.directives.items
    c.used.result c.args.runner.now.used c.used.ensures (search rules) c.in_err-say_heading.ensures

pub returns-in_err-say_globals : goal.returns-in_err-say_globals
returns-in_err-say_globals g c =
    values_fail (world_in c.args.runner.now) c.as_slice.result.now
    c.args.program.now.program.directives.items c.used.result c.args.runner.now.used
    (search rules) c.used.ensures (search rules) c.in_ok-say_heading.ensures
    c.in_err-say_globals.ensures

pub returns : goal.returns
returns g c =
    line_said (world_in c.args.runner.now) c.as_slice.result.now
    c.args.program.now.program.directives.items c.used.result c.args.runner.now.used
    (search rules) c.used.ensures c.in_ok-say_heading.ensures c.in_ok-say_globals.ensures
    c.say.ensures
