use Rattle.std.proofs.Common.{◌∙◌, ◌+◌, ◌-◌, Err, sym, ap, subst, arith, rules}
use Rattle.std.proofs.lemmas.Result.{err_from_is_err_and}
use Rattle.adv_counts.specs.Laws.{CountsAdd}
use Rattle.inform_steps.specs.Laws.{PiecesJoin, EnteredJoin, SpentGoesOn, StoppedStays, StoppedEntersNothing}
use Rattle.inform_run.specs.Runners.{resumed, Runs}
use Rattle.adv_coverage.proofs.Known.{Laws, known, if-known, began, breaks-first, steps-on, step-fails, leads-on, leads-fails, stops, uses-all}
use Rattle.adv_coverage.proofs.calls.count_calls.Goals as goal

laws_of : CountsAdd → PiecesJoin → EnteredJoin → SpentGoesOn → StoppedStays
    → StoppedEntersNothing → Laws
laws_of adds joins enters spends stays nothing = record {
  adds = adds;
  joins = joins;
  enters = enters;
  spends = spends;
  stays = stays;
  nothing = nothing;
}

-- ---- up to the first call

pub loop-init : goal.loop-init
loop-init g c =
    let seen = g.C.Console.seen in
    let laws = laws_of c.counts_add.ensures c.pieces_join.ensures c.entered_join.ensures
    c.spent_goes_on.ensures c.stopped_stays.ensures c.stopped_enters_nothing.ensures in
    record {
      whole = search rules;
      program = c.run_to_call.ensures.program;
      used = c.run_to_call.ensures.few_used;
      bounded = c.run_to_call.ensures.bounded;
      steady = search rules;
      sofar = λ lines is. began laws (seen c.args.console.now) lines c.args.steps c.args.runner.now
          c.args.draws.now c.args.counts.now (seen c.run_to_call.new.console) c.in_ok-stop.stop
          c.run_to_call.new.self c.run_to_call.new.draws
          (known _ (seen c.args.console.now).left lines is c.in_ok-stop.ensures.runs);
    }

pub returns-in_err-stop-clause-runs : goal.returns-in_err-stop-clause-runs
returns-in_err-stop-clause-runs g c =
    let seen = g.C.Console.seen in
    let laws = laws_of c.counts_add.ensures c.pieces_join.ensures c.entered_join.ensures
    c.spent_goes_on.ensures c.stopped_stays.ensures c.stopped_enters_nothing.ensures in
    let e = err_from_is_err_and c.from_residual.result c.from_residual.ensures.1 in
    if-known _ (seen c.args.console.now).left (λ lines is.
    subst (λ result. Runs (seen c.args.console.now) (seen c.run_to_call.new.console) result
    c.args.steps (resumed c.args.runner.now c.args.steps lines c.args.draws.now.left)
    c.args.runner.now c.run_to_call.new.self c.args.draws.now c.run_to_call.new.draws)
    (sym (e.1 ∙ ap (λ x. Err x) e.2))
    (breaks-first laws (seen c.args.console.now) lines c.args.steps c.args.runner.now
    c.args.draws.now c.args.counts.now (seen c.run_to_call.new.console) c.in_err-stop.field-0.0
    c.run_to_call.new.self c.run_to_call.new.draws
    (known _ (seen c.args.console.now).left lines is c.in_err-stop.ensures.runs)))

-- ---- where it stopped

pub returns-in_default-clause-runs : goal.returns-in_default-clause-runs
returns-in_default-clause-runs g c =
    let seen = g.C.Console.seen in
    let laws = laws_of c.counts_add.ensures c.pieces_join.ensures c.entered_join.ensures
    c.spent_goes_on.ensures c.stopped_stays.ensures c.stopped_enters_nothing.ensures in
    if-known _ (seen c.args.console.now).left (λ lines is.
    (stops laws (seen c.args.console.now) lines c.args.steps c.args.runner.now
    c.args.draws.now c.args.counts.now (seen c.loop.console)
    c.loop.stop c.loop.counter c.loop.runner c.loop.draws c.loop.counts (c.loop.invariant.sofar lines is) c.in_default.not-Spent).runs)

pub returns-then-left-eq0-clause-runs : goal.returns-then-left-eq0-clause-runs
returns-then-left-eq0-clause-runs g c =
    let seen = g.C.Console.seen in
    let laws = laws_of c.counts_add.ensures c.pieces_join.ensures c.entered_join.ensures
    c.spent_goes_on.ensures c.stopped_stays.ensures c.stopped_enters_nothing.ensures in
    if-known _ (seen c.args.console.now).left (λ lines is.
    (uses-all laws (seen c.args.console.now) lines c.args.steps c.args.runner.now
    c.args.draws.now c.args.counts.now (seen c.loop.console)
    c.loop.stop c.loop.counter c.loop.runner c.loop.draws c.loop.counts (c.loop.invariant.sofar lines is) (omega (arith, (c.loop.invariant.sofar lines is).used, c.if-left-eq0.true))).runs)

pub returns-clause-runs : goal.returns-clause-runs
returns-clause-runs g c =
    let seen = g.C.Console.seen in
    let laws = laws_of c.counts_add.ensures c.pieces_join.ensures c.entered_join.ensures
    c.spent_goes_on.ensures c.stopped_stays.ensures c.stopped_enters_nothing.ensures in
    if-known _ (seen c.args.console.now).left (λ lines is.
    (uses-all laws (seen c.args.console.now) lines c.args.steps c.args.runner.now
    c.args.draws.now c.args.counts.now (seen c.loop.console)
    c.loop.stop c.loop.counter c.loop.runner c.loop.draws c.loop.counts (c.loop.invariant.sofar lines is) (omega (arith, (c.loop.invariant.sofar lines is).enough, (c.loop.invariant.sofar lines is).few))).runs)

pub returns-in_default-clause-counts : goal.returns-in_default-clause-counts
returns-in_default-clause-counts g c =
    let seen = g.C.Console.seen in
    let laws = laws_of c.counts_add.ensures c.pieces_join.ensures c.entered_join.ensures
    c.spent_goes_on.ensures c.stopped_stays.ensures c.stopped_enters_nothing.ensures in
    if-known _ (seen c.args.console.now).left (λ lines is.
    (stops laws (seen c.args.console.now) lines c.args.steps c.args.runner.now
    c.args.draws.now c.args.counts.now (seen c.loop.console)
    c.loop.stop c.loop.counter c.loop.runner c.loop.draws c.loop.counts (c.loop.invariant.sofar lines is) c.in_default.not-Spent).counts_are)

pub returns-then-left-eq0-clause-counts : goal.returns-then-left-eq0-clause-counts
returns-then-left-eq0-clause-counts g c =
    let seen = g.C.Console.seen in
    let laws = laws_of c.counts_add.ensures c.pieces_join.ensures c.entered_join.ensures
    c.spent_goes_on.ensures c.stopped_stays.ensures c.stopped_enters_nothing.ensures in
    if-known _ (seen c.args.console.now).left (λ lines is.
    (uses-all laws (seen c.args.console.now) lines c.args.steps c.args.runner.now
    c.args.draws.now c.args.counts.now (seen c.loop.console)
    c.loop.stop c.loop.counter c.loop.runner c.loop.draws c.loop.counts (c.loop.invariant.sofar lines is) (omega (arith, (c.loop.invariant.sofar lines is).used, c.if-left-eq0.true))).counts_are)

pub returns-clause-counts : goal.returns-clause-counts
returns-clause-counts g c =
    let seen = g.C.Console.seen in
    let laws = laws_of c.counts_add.ensures c.pieces_join.ensures c.entered_join.ensures
    c.spent_goes_on.ensures c.stopped_stays.ensures c.stopped_enters_nothing.ensures in
    if-known _ (seen c.args.console.now).left (λ lines is.
    (uses-all laws (seen c.args.console.now) lines c.args.steps c.args.runner.now
    c.args.draws.now c.args.counts.now (seen c.loop.console)
    c.loop.stop c.loop.counter c.loop.runner c.loop.draws c.loop.counts (c.loop.invariant.sofar lines is) (omega (arith, (c.loop.invariant.sofar lines is).enough, (c.loop.invariant.sofar lines is).few))).counts_are)

pub returns-in_default-stepped-clause-runs : goal.returns-in_default-stepped-clause-runs
returns-in_default-stepped-clause-runs g c =
    let seen = g.C.Console.seen in
    let laws = laws_of c.counts_add.ensures c.pieces_join.ensures c.entered_join.ensures
    c.spent_goes_on.ensures c.stopped_stays.ensures c.stopped_enters_nothing.ensures in
    if-known _ (seen c.args.console.now).left (λ lines is.
    (stops laws (seen c.args.console.now) lines c.args.steps c.args.runner.now
    c.args.draws.now c.args.counts.now (seen c.count_step.new.console)
    c.in_ok-stepped.stepped (c.loop.counter + 1) c.count_step.new.runner c.count_step.new.draws c.count_step.new.counts (steps-on laws (seen c.args.console.now) lines c.args.steps c.args.runner.now
    c.args.draws.now c.args.counts.now
    (seen c.loop.console) (seen c.count_step.new.console) c.loop.stop c.loop.counter c.loop.runner
    c.count_step.new.runner c.loop.draws c.count_step.new.draws c.loop.counts
    c.count_step.new.counts c.loop.invariant.program (c.loop.invariant.sofar lines is)
    c.in_ok-stepped.stepped c.in-Spent.is (omega arith)
    (known _ (seen c.loop.console).left _ (c.loop.invariant.sofar lines is).runs.lines
    c.in_ok-stepped.ensures.runs) c.in_ok-stepped.ensures.counts) c.in_default-stepped.not-Spent).runs)

pub returns-in_default-stepped-clause-counts : goal.returns-in_default-stepped-clause-counts
returns-in_default-stepped-clause-counts g c =
    let seen = g.C.Console.seen in
    let laws = laws_of c.counts_add.ensures c.pieces_join.ensures c.entered_join.ensures
    c.spent_goes_on.ensures c.stopped_stays.ensures c.stopped_enters_nothing.ensures in
    if-known _ (seen c.args.console.now).left (λ lines is.
    (stops laws (seen c.args.console.now) lines c.args.steps c.args.runner.now
    c.args.draws.now c.args.counts.now (seen c.count_step.new.console)
    c.in_ok-stepped.stepped (c.loop.counter + 1) c.count_step.new.runner c.count_step.new.draws c.count_step.new.counts (steps-on laws (seen c.args.console.now) lines c.args.steps c.args.runner.now
    c.args.draws.now c.args.counts.now
    (seen c.loop.console) (seen c.count_step.new.console) c.loop.stop c.loop.counter c.loop.runner
    c.count_step.new.runner c.loop.draws c.count_step.new.draws c.loop.counts
    c.count_step.new.counts c.loop.invariant.program (c.loop.invariant.sofar lines is)
    c.in_ok-stepped.stepped c.in-Spent.is (omega arith)
    (known _ (seen c.loop.console).left _ (c.loop.invariant.sofar lines is).runs.lines
    c.in_ok-stepped.ensures.runs) c.in_ok-stepped.ensures.counts) c.in_default-stepped.not-Spent).counts_are)

-- ---- a fault of the console

pub returns-in_err-stepped-clause-runs : goal.returns-in_err-stepped-clause-runs
returns-in_err-stepped-clause-runs g c =
    let seen = g.C.Console.seen in
    let laws = laws_of c.counts_add.ensures c.pieces_join.ensures c.entered_join.ensures
    c.spent_goes_on.ensures c.stopped_stays.ensures c.stopped_enters_nothing.ensures in
    let e = err_from_is_err_and c.from_residual-in_err-stepped.result
    c.from_residual-in_err-stepped.ensures.1 in
    if-known _ (seen c.args.console.now).left (λ lines is.
    subst (λ result. Runs (seen c.args.console.now) (seen c.count_step.new.console) result
    c.args.steps (resumed c.args.runner.now c.args.steps lines c.args.draws.now.left)
    c.args.runner.now c.count_step.new.runner c.args.draws.now c.count_step.new.draws)
    (sym (e.1 ∙ ap (λ x. Err x) e.2))
    (step-fails laws (seen c.args.console.now) lines c.args.steps c.args.runner.now
    c.args.draws.now c.args.counts.now
    (seen c.loop.console) (seen c.count_step.new.console) c.loop.stop c.loop.counter c.loop.runner
    c.count_step.new.runner c.loop.draws c.count_step.new.draws c.loop.counts
    c.count_step.new.counts c.loop.invariant.program (c.loop.invariant.sofar lines is)
    c.in_err-stepped.field-0.0 (omega arith)
    (known _ (seen c.loop.console).left _ (c.loop.invariant.sofar lines is).runs.lines
    c.in_err-stepped.ensures.runs)))

pub returns-in_err-stop-2-clause-runs : goal.returns-in_err-stop-2-clause-runs
returns-in_err-stop-2-clause-runs g c =
    let seen = g.C.Console.seen in
    let laws = laws_of c.counts_add.ensures c.pieces_join.ensures c.entered_join.ensures
    c.spent_goes_on.ensures c.stopped_stays.ensures c.stopped_enters_nothing.ensures in
    let e = err_from_is_err_and c.from_residual-in_err-stop-2.result
    c.from_residual-in_err-stop-2.ensures.1 in
    if-known _ (seen c.args.console.now).left (λ lines is.
    let stepped = (steps-on laws (seen c.args.console.now) lines c.args.steps c.args.runner.now
    c.args.draws.now c.args.counts.now
    (seen c.loop.console) (seen c.count_step.new.console) c.loop.stop c.loop.counter c.loop.runner
    c.count_step.new.runner c.loop.draws c.count_step.new.draws c.loop.counts
    c.count_step.new.counts c.loop.invariant.program (c.loop.invariant.sofar lines is)
    c.in_ok-stepped.stepped c.in-Spent.is (omega arith)
    (known _ (seen c.loop.console).left _ (c.loop.invariant.sofar lines is).runs.lines
    c.in_ok-stepped.ensures.runs) c.in_ok-stepped.ensures.counts) in
    subst (λ result. Runs (seen c.args.console.now) (seen c.run_to_call-in-loop.new.console) result
    c.args.steps (resumed c.args.runner.now c.args.steps lines c.args.draws.now.left)
    c.args.runner.now c.run_to_call-in-loop.new.self c.args.draws.now
    c.run_to_call-in-loop.new.draws)
    (sym (e.1 ∙ ap (λ x. Err x) e.2))
    (leads-fails laws (seen c.args.console.now) lines c.args.steps c.args.runner.now
    c.args.draws.now c.args.counts.now
    (seen c.count_step.new.console) (seen c.run_to_call-in-loop.new.console)
    c.in_ok-stepped.stepped (c.loop.counter + 1) c.count_step.new.runner
    c.run_to_call-in-loop.new.self c.count_step.new.draws c.run_to_call-in-loop.new.draws
    c.count_step.new.counts c.count_step.new.counts
    (c.count_step.ensures.program ∙ c.loop.invariant.program) stepped
    c.in_err-stop-2.field-0.0 ((c.used.result + c.args.steps) - c.used-in-loop.result - 1) (omega (arith, c.count_step.ensures.few_used)) (known _ (seen c.count_step.new.console).left _ stepped.runs.lines c.in_err-stop-2.ensures.runs)))

-- ---- a turn

pub loop-preserved : goal.loop-preserved
loop-preserved g c =
    let seen = g.C.Console.seen in
    let laws = laws_of c.counts_add.ensures c.pieces_join.ensures c.entered_join.ensures
    c.spent_goes_on.ensures c.stopped_stays.ensures c.stopped_enters_nothing.ensures in
    record {
      whole = search rules;
      program = c.run_to_call-in-loop.ensures.program
          ∙ c.count_step.ensures.program ∙ c.loop.invariant.program;
      used = omega (
        arith,
        c.loop.invariant.used,
        c.count_step.ensures.few_used,
        c.run_to_call-in-loop.ensures.few_used,
      );
      bounded = omega (
        arith,
        c.loop.invariant.bounded,
        c.count_step.ensures.bounded,
        c.run_to_call-in-loop.ensures.bounded,
      );
      steady = search rules;
      sofar = λ lines is.
          let stepped = (steps-on laws (seen c.args.console.now) lines c.args.steps c.args.runner.now
          c.args.draws.now c.args.counts.now
          (seen c.loop.console) (seen c.count_step.new.console) c.loop.stop c.loop.counter c.loop.runner
          c.count_step.new.runner c.loop.draws c.count_step.new.draws c.loop.counts
          c.count_step.new.counts c.loop.invariant.program (c.loop.invariant.sofar lines is)
          c.in_ok-stepped.stepped c.in-Spent.is (omega arith)
          (known _ (seen c.loop.console).left _ (c.loop.invariant.sofar lines is).runs.lines
          c.in_ok-stepped.ensures.runs) c.in_ok-stepped.ensures.counts) in
          (leads-on laws (seen c.args.console.now) lines c.args.steps c.args.runner.now
          c.args.draws.now c.args.counts.now
          (seen c.count_step.new.console) (seen c.run_to_call-in-loop.new.console)
          c.in_ok-stepped.stepped (c.loop.counter + 1) c.count_step.new.runner
          c.run_to_call-in-loop.new.self c.count_step.new.draws c.run_to_call-in-loop.new.draws
          c.count_step.new.counts c.count_step.new.counts
          (c.count_step.ensures.program ∙ c.loop.invariant.program) stepped
          c.in_ok-stop-2.stop ((c.used.result + c.args.steps) - c.used-in-loop.result - 1) (omega (arith, c.count_step.ensures.few_used)) (known _ (seen c.count_step.new.console).left _ stepped.runs.lines c.in_ok-stop-2.ensures.runs));
    }
