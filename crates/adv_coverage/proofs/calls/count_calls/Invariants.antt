use Rattle.std.proofs.Common.{ℕ, ◌≡◌, ◌≤◌, ◌+◌, List, Some, false}
use Rattle.inform_run.specs.Runners.{program_run}
use Rattle.adv_coverage.proofs.Known.{Sofar}
use Rattle.adv_coverage.proofs.calls.count_calls.Given as goal

-- the steps so far are a run with so many, of which each turn made one at least, and the counts are
-- raised by what it entered
abbrev pub invariant-loop : goal.invariant-loop
invariant-loop g l =
    let seen = g.C.Console.seen in
    record {
      whole : l.runner.broken ≡ false;
      program : program_run l.runner ≡ program_run l.fn.runner;
      used : l.runner.used ≤ l.fn.runner.used + l.fn.steps;
      bounded : (seen l.console).bound ≤ (seen l.fn.console).bound;
      steady : (seen l.console).faults ≡ (seen l.fn.console).faults;
      sofar : (lines : List (List ℕ)) → (seen l.fn.console).left ≡ Some lines
          → Sofar (seen l.fn.console) lines l.fn.steps l.fn.runner l.fn.draws l.fn.counts
          (seen l.console) l.stop l.counter l.runner l.draws l.counts;
    }
