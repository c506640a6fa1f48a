use Rattle.std.proofs.Common.{[], false, rules, sym, subst, arith}
use Rattle.adv_io.specs.History.{GrewByPrefix}
use Rattle.adv_io.specs.Steps.{shown_of}
use Rattle.inform_frames.specs.Stacks.{stack_of}
use Rattle.inform_interpreter.specs.Interpreters.{program_of}
use Rattle.inform_run.specs.declared.machines.Machine.{Machine}
use Rattle.inform_run.specs.Runners.{left_to}
use Rattle.inform_run.proofs.Found.{if-known, all-may, found}
use Rattle.inform_run.proofs.runners.Runner.run.Goals as goal

pub returns-in-Ok-clause-runs : goal.returns-in-Ok-clause-runs
returns-in-Ok-clause-runs g c =
    let seen = g.C.Console.seen in
    let before = c.args.self.now.machine in
    let old : Machine = record before { interpreter = record before.interpreter { left = c.args.steps; to_call = false } } in
    let new = c.run.new.self in
    let r = c.in-Ok.ensures in
    if-known (seen c.args.console.now).left
    (λ lines known.
    let at = r.ends lines known in
    let may = all-may at.outcome c.in-Ok.stop new.interpreter.left at.stop_is (λ is some. absurd (search (rules, (r.spent is some).0))) in
    let f = found c.runs_go.ensures old new (seen c.args.console.now) (seen c.run.new.console) c.args.draws.now c.run.new.draws r.supply c.in-Ok.stop lines at new.interpreter.left may c.args.steps (omega (arith, at.reaches.steps)) in
    record {
      shows = f.shows;
      part = tt;
      lines = f.lines;
      leaves = record {
        begun = f.begun;
        world = f.world_is;
        draws = f.draws;
        taken = f.taken;
        used = omega (arith, f.steps, r.left);
        stop = f.stop_is;
      };
    })

pub returns-in-Ok-clause-goes_on : goal.returns-in-Ok-clause-goes_on
returns-in-Ok-clause-goes_on g c =
    let m = c.args.self.now.machine in
    if-known (g.C.Console.seen c.args.console.now).left
    (λ lines known more further drawn. c.runs_split.ensures (program_of m.interpreter) (stack_of m.stack) more further drawn (left_to c.args.self.now c.args.steps lines c.args.draws.now.left))

pub returns-in-Err-clause-runs : goal.returns-in-Err-clause-runs
returns-in-Err-clause-runs g c =
    let seen = g.C.Console.seen in
    if-known (seen c.args.console.now).left
    (λ lines known.
    let b = c.in-Err.ensures.ends lines known [] in
    record {
      shows = tt;
      part = subst (λ es. GrewByPrefix (seen c.args.console.now).history (seen c.run.new.console).history (shown_of es)) (sym b.same) b.shows;
      lines = tt;
      leaves = tt;
    })

pub returns-in-Err-clause-goes_on : goal.returns-in-Err-clause-goes_on
returns-in-Err-clause-goes_on g c =
    let m = c.args.self.now.machine in
    if-known (g.C.Console.seen c.args.console.now).left
    (λ lines known more further drawn. c.runs_split.ensures (program_of m.interpreter) (stack_of m.stack) more further drawn (left_to c.args.self.now c.args.steps lines c.args.draws.now.left))
