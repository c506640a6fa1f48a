use Rattle.std.proofs.Common.{◌≡◌, ◌∙◌, ◌-◌, length, refl, ap}
use Rattle.inform_meaning.specs.Frames.{Outcome}
use Rattle.inform_meaning.specs.Worlds.{Config}
use Rattle.inform_run.specs.Runners.{program_run, begun_in, world_in, left_to, resumed}
use Rattle.inform_run.specs.Stops.{stop_seen}
use Rattle.adv_demo.specs.Summaries.{run_summary}
use Rattle.adv_demo.proofs.Ends.{run_is, ran, steps_left}
use Rattle.adv_demo.proofs.running.run_lines.Goals as goal

pub returns-clause-ended : goal.returns-clause-ended
returns-clause-ended c =
    let opened = c.in_ok-runner.runner in
    let given = c.new-console.result in
    let draws = c.args.draws.left in
    let runs = c.in-Ok.ensures.runs in
    let is = run_is opened c.args.program.now c.args.steps given c.args.lines.now draws
    c.in_ok-runner.ensures.program c.in_ok-runner.ensures.begun c.in_ok-runner.ensures.world
    c.new-console.ensures in
    let used : length c.args.lines.now - c.left.result ≡ length given - length c.run.new.console =
    rw (c.left.ensures, c.new-console.ensures) refl in
    c.summary.ensures
    ∙ ran (resumed opened c.args.steps given draws) given c.run.new.console draws c.args.steps
    (world_in opened) (length c.args.lines.now - c.left.result) c.args.draws.taken c.taken.result
    (stop_seen c.in-Ok.stop) (world_in c.run.new.self)
    (c.runs_go.ensures (program_run opened) (begun_in opened) (left_to opened c.args.steps given draws))
    used runs.lines c.requires (c.taken.ensures.value ∙ runs.leaves.taken)
    runs.leaves.stop runs.leaves.world
    ∙ ap run_summary is

pub returns-clause-used : goal.returns-clause-used
returns-clause-used c =
    let opened = c.in_ok-runner.runner in
    let given = c.new-console.result in
    let draws = c.args.draws.left in
    let t = resumed opened c.args.steps given draws in
    let is = run_is opened c.args.program.now c.args.steps given c.args.lines.now draws
    c.in_ok-runner.ensures.program c.in_ok-runner.ensures.begun c.in_ok-runner.ensures.world
    c.new-console.ensures in
    c.used.ensures
    ∙ steps_left c.run.new.self.used opened.used c.args.steps t.1.steps c.in_ok-runner.ensures.used
    c.in-Ok.ensures.runs.leaves.used
    ∙ ap (λ (u : Outcome × Config). c.args.steps - u.1.steps) is
