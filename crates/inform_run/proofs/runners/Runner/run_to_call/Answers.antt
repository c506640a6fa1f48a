use Rattle.std.proofs.Common.{◌≡◌, ◌-◌, [], true, refl, sym, subst, arith}
use Rattle.adv_io.specs.History.{GrewByPrefix}
use Rattle.adv_io.specs.Steps.{shown_of}
use Rattle.inform_frames.specs.Stacks.{stack_of}
use Rattle.inform_interpreter.specs.Interpreters.{program_of}
use Rattle.inform_run.specs.declared.machines.Machine.{Machine}
use Rattle.inform_run.specs.Runners.{left_to}
use Rattle.inform_run.proofs.Found.{if-known, none-may, found, enters-nothing}
use Rattle.inform_run.proofs.runners.Runner.run_to_call.Goals as goal

pub returns-in-Ok-clause-runs : goal.returns-in-Ok-clause-runs
returns-in-Ok-clause-runs g c =
    let seen = g.C.Console.seen in
    let before = c.args.self.now.machine in
    let old : Machine = record before { interpreter = record before.interpreter { left = c.args.steps; to_call = true } } in
    let new = c.run.new.self in
    let r = c.in-Ok.ensures in
    let n = c.args.steps - new.interpreter.left in
    if-known (seen c.args.console.now).left
    (λ lines known.
    let at = r.ends lines known in
    let all : n ≡ at.reaches.used = omega (arith, at.reaches.steps) in
    let f = found c.runs_go.ensures old new (seen c.args.console.now) (seen c.run.new.console) c.args.draws.now c.run.new.draws r.supply c.in-Ok.stop lines at 0 (none-may at.outcome) n (omega (arith, all)) in
    record {
      count = n;
      few = omega arith;
      runs = record {
        shows = f.shows;
        part = tt;
        lines = f.lines;
        leaves = record {
          begun = f.begun;
          world = f.world_is;
          draws = f.draws;
          taken = f.taken;
          used = omega (arith, f.steps, r.left);
          stop = f.stop_is;
        };
      };
      used = omega (arith, r.left);
      none = enters-nothing c.only_calls_enter.ensures (program_of before.interpreter) (stack_of before.stack) (left_to c.args.self.now n lines c.args.draws.now.left) n
          (λ k few. at.reaches.leads.quiet refl k [] (omega (arith, few, all))) n (omega arith);
    })

pub returns-in-Ok-clause-due : goal.returns-in-Ok-clause-due
returns-in-Ok-clause-due g c = λ is less.
    let r = c.in-Ok.ensures in
    (r.spent is (omega (arith, less, r.left))).1

pub returns-in-Err-clause-runs : goal.returns-in-Err-clause-runs
returns-in-Err-clause-runs g c =
    let seen = g.C.Console.seen in
    if-known (seen c.args.console.now).left
    (λ lines known.
    let b = c.in-Err.ensures.ends lines known [] in
    record {
      count = c.args.steps;
      few = omega arith;
      runs = record {
        shows = tt;
        part = subst (λ es. GrewByPrefix (seen c.args.console.now).history (seen c.run.new.console).history (shown_of es)) (sym b.same) b.shows;
        lines = tt;
        leaves = tt;
      };
      used = tt;
      none = tt;
    })
