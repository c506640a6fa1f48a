use Rattle.std.proofs.Common.{◌≡◌, ◌≤◌, ◌+◌, ◌-◌, ℕ, List, Some, false}
use Rattle.inform_entered.specs.Entered.{open_routines}
use Rattle.inform_run.specs.Runners.{program_run, begun_in}
use Rattle.inform_stepper.proofs.Led.{Led}
use Rattle.inform_stepper.proofs.stepping.go_by_steps.Given as goal

-- the steps so far were used, and nothing paused the run
abbrev pub invariant-loop-left : goal.invariant-loop-left
invariant-loop-left g l =
    let seen = g.C.Console.seen in
    record {
      few : l.left ≤ l.steps;
      whole : l.runner.broken ≡ false;
      used : l.runner.used + l.left ≤ l.fn.runner.used + l.steps;
      program : program_run l.runner ≡ program_run l.fn.runner;
      bounded : (seen l.console).bound ≤ (seen l.fn.console).bound;
      steady : (seen l.console).faults ≡ (seen l.fn.console).faults;
      open_is : l.before ≡ open_routines (begun_in l.runner);
      led : (lines : List (List ℕ)) → (seen l.fn.console).left ≡ Some lines
          → Led (seen l.fn.console) l.until l.steps lines l.fn.runner l.fn.draws (seen l.console) l.runner l.draws (l.steps - l.left);
    }

-- each turn makes a step
abbrev pub decreases-loop-left : goal.decreases-loop-left
decreases-loop-left g l = l.left
