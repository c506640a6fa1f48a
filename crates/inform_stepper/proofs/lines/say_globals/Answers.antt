use Rattle.std.proofs.Common.{rules}
use Rattle.inform_run.specs.Runners.{world_in}
use Rattle.inform_stepper.proofs.PauseLines.{said_of, one_fails}
use Rattle.inform_stepper.proofs.lines.say_globals.Goals as goal

pub returns-in_err-say_directive : goal.returns-in_err-say_directive
returns-in_err-say_directive g c =
    one_fails (said_of (world_in c.args.runner.now)) c.args.directives.now
    c.loop-directive.directive-index c.directive-item.result c.loop-directive-test.true
    c.directive-item.is (search rules)
    c.loop-directive.invariant c.in_err-say_directive.ensures
