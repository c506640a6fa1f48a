use Rattle.std.proofs.Common.{◌∙◌, ◌+◌, ap}
use Rattle.inform_run.specs.Runners.{begun_in}
use Rattle.inform_run.proofs.Opened.{some_open}
use Rattle.inform_run.proofs.runners.Runner.open_routines.Goals as goal

pub returns-in-Some : goal.returns-in-Some
returns-in-Some c = ap (λ n. n + 1) c.calls.ensures.value
    ∙ some_open (begun_in c.args.self.now) c.in-Some.ensures.begun
