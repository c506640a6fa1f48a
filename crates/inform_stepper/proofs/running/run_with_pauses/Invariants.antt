use Rattle.std.proofs.Common.{◌≡◌, ◌≤◌, ◌+◌, ℕ, List, Some, false}
use Rattle.inform_run.specs.Runners.{program_run}
use Rattle.inform_stepper.proofs.Telling.{Sofar}
use Rattle.inform_stepper.proofs.running.run_with_pauses.Given as goal

-- the run so far, with its lines, which has used a step at least for each turn
abbrev pub invariant-loop : goal.invariant-loop
invariant-loop g l =
    let seen = g.C.Console.seen in
    record {
      whole : l.runner.broken ≡ false;
      used : l.runner.used ≤ l.fn.runner.used + l.steps;
      program : program_run l.runner ≡ program_run l.fn.runner;
      bounded : (seen l.console).bound ≤ (seen l.fn.console).bound;
      steady : (seen l.console).faults ≡ (seen l.fn.console).faults;
      told : (lines : List (List ℕ)) → (seen l.fn.console).left ≡ Some lines
          → Sofar l.program l.pausing lines l.fn.runner l.fn.draws (seen l.fn.console)
          (seen l.console) l.runner l.draws l.counter;
    }
