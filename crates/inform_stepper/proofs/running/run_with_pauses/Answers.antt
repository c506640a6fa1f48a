use Rattle.std.proofs.Common.{◌≡◌, ◌∙◌, ℕ, ◌+◌, ◌-◌, refl, ap, arith}
use Rattle.std.proofs.lemmas.Result.{err_from_is_err_and}
use Rattle.inform_steps.specs.Laws.{PiecesJoin, SpentGoesOn, StoppedStays}
use Rattle.inform_stepper.specs.Laws.{RunsJoin, PausesAreShown, StoppedShowsNoMore}
use Rattle.inform_stepper.specs.Repeats.{awaited}
use Rattle.inform_stepper.proofs.Led.{known, if_known}
use Rattle.inform_stepper.proofs.Telling.{Laws, later_cause, used-is, fails, stops, first-told, whole-told, goes_stops, goes_fails, goes_pauses, line_fails}
use Rattle.inform_stepper.proofs.running.run_with_pauses.Goals as goal

laws_of : PiecesJoin → SpentGoesOn → StoppedStays → RunsJoin → PausesAreShown
    → StoppedShowsNoMore → Laws
laws_of joins spends stays runs shows quiet = record {
  joins = joins;
  spends = spends;
  stays = stays;
  runs = runs;
  shows = shows;
  quiet = quiet;
}

-- ---- with no step

pub returns-in_err-settled-clause-runs : goal.returns-in_err-settled-clause-runs
returns-in_err-settled-clause-runs g c =
    let seen = g.C.Console.seen in
    let laws = laws_of c.pieces_join.ensures c.spent_goes_on.ensures c.stopped_stays.ensures
    c.runs_join.ensures c.pauses_are_shown.ensures c.stopped_shows_no_more.ensures in
    let e = err_from_is_err_and c.from_residual.result c.from_residual.ensures.1 in
    rw (e.1)
    (if_known _ (seen c.args.console.now).left (λ lines is.
    fails laws c.args.program.now c.args.pausing lines c.args.runner.now
    c.args.draws.now
    (seen c.args.console.now) (seen c.run.new.console) e.0 c.run.new.self c.run.new.draws
    0 c.args.steps (omega arith)
    (known _ (seen c.args.console.now).left lines is c.in_err-settled.ensures.runs).part))

pub returns-in_default : goal.returns-in_default
returns-in_default g c =
    let seen = g.C.Console.seen in
    let laws = laws_of c.pieces_join.ensures c.spent_goes_on.ensures c.stopped_stays.ensures
    c.runs_join.ensures c.pauses_are_shown.ensures c.stopped_shows_no_more.ensures in
    record {
      runs = if_known _ (seen c.args.console.now).left (λ lines is.
          stops laws c.args.program.now c.args.pausing lines c.args.runner.now
          c.args.draws.now
          (seen c.args.console.now) (seen c.run.new.console) c.in_ok-settled.settled
          c.run.new.self c.run.new.draws 0 c.args.steps (omega arith) c.in_default.not-Spent
          (first-told laws c.args.program.now c.args.pausing lines c.args.runner.now
          c.args.draws.now
          (seen c.args.console.now) (seen c.run.new.console) c.in_ok-settled.settled
          c.run.new.self c.run.new.draws
          (known _ (seen c.args.console.now).left lines is c.in_ok-settled.ensures.runs)));
      bounded = c.run.ensures.bounded;
      cause = c.in_ok-settled.ensures.cause;
      program = c.run.ensures.program;
      stays_whole = c.in_ok-settled.ensures.breaks.0 refl;
      few_used = omega (arith, c.run.ensures.few_used);
    }

-- ---- all steps are used

pub returns-then-used-end-clause-runs : goal.returns-then-used-end-clause-runs
returns-then-used-end-clause-runs g c =
    let seen = g.C.Console.seen in
    let laws = laws_of c.pieces_join.ensures c.spent_goes_on.ensures c.stopped_stays.ensures
    c.runs_join.ensures c.pauses_are_shown.ensures c.stopped_shows_no_more.ensures in
    if_known _ (seen c.args.console.now).left (λ lines is.
    let i = c.loop.invariant.told lines is in
    let used = used-is laws c.args.program.now c.args.pausing lines c.args.runner.now
    c.args.draws.now
    (seen c.args.console.now) (seen c.loop.console) c.loop.runner c.loop.draws i.count
    c.loop.invariant.program i.told in
    let all : i.count ≡ c.args.steps =
    omega (arith, used, c.if-used-end.true, c.used.ensures, c.used-used.ensures) in
    whole-told laws c.args.program.now c.args.pausing lines c.args.runner.now
    c.args.draws.now
    (seen c.args.console.now) (seen c.loop.console) _ c.loop.runner c.loop.draws i.count
    c.args.steps all i.told)

pub returns-clause-runs : goal.returns-clause-runs
returns-clause-runs g c =
    let seen = g.C.Console.seen in
    let laws = laws_of c.pieces_join.ensures c.spent_goes_on.ensures c.stopped_stays.ensures
    c.runs_join.ensures c.pauses_are_shown.ensures c.stopped_shows_no_more.ensures in
    if_known _ (seen c.args.console.now).left (λ lines is.
    let i = c.loop.invariant.told lines is in
    let used = used-is laws c.args.program.now c.args.pausing lines c.args.runner.now
    c.args.draws.now
    (seen c.args.console.now) (seen c.loop.console) c.loop.runner c.loop.draws i.count
    c.loop.invariant.program i.told in
    let all : i.count ≡ c.args.steps =
    omega (arith, used, i.later, c.loop-test.false, c.loop.invariant.used) in
    whole-told laws c.args.program.now c.args.pausing lines c.args.runner.now
    c.args.draws.now
    (seen c.args.console.now) (seen c.loop.console) _ c.loop.runner c.loop.draws i.count
    c.args.steps all i.told)

-- ---- up to the next pause

pub returns-in_err-paused-clause-runs : goal.returns-in_err-paused-clause-runs
returns-in_err-paused-clause-runs g c =
    let seen = g.C.Console.seen in
    let laws = laws_of c.pieces_join.ensures c.spent_goes_on.ensures c.stopped_stays.ensures
    c.runs_join.ensures c.pauses_are_shown.ensures c.stopped_shows_no_more.ensures in
    let residual = c.from_residual-in_err-paused in
    let e = err_from_is_err_and residual.result residual.ensures.1 in
    let left : ℕ = (c.used.result + c.args.steps) - c.used-used.result in
    rw (e.1)
    (if_known _ (seen c.args.console.now).left (λ lines is.
    let i = c.loop.invariant.told lines is in
    goes_fails laws c.args.program.now c.args.pausing lines c.args.runner.now
    c.args.draws.now
    (seen c.args.console.now) (seen c.loop.console) c.loop.runner c.loop.draws i.count
    c.loop.invariant.program i.told c.requires.range c.after.result
    (c.after.ensures ∙ ap (awaited c.args.pausing) c.used-used.ensures) left c.args.steps
    (omega (
      arith,
      c.if-used-end.false,
      c.used.ensures,
      c.used-used.ensures,
      c.loop.invariant.used,
    ))
    (omega (arith, c.used.ensures, c.used-used.ensures, c.loop.invariant.used))
    (seen c.go.new.console) _ e.0 c.go.new.runner c.go.new.draws
    (known _ (seen c.loop.console).left _ i.told.lines c.in_err-paused.ensures.goes)))

pub returns-in-Stopped-clause-runs : goal.returns-in-Stopped-clause-runs
returns-in-Stopped-clause-runs g c =
    let seen = g.C.Console.seen in
    let laws = laws_of c.pieces_join.ensures c.spent_goes_on.ensures c.stopped_stays.ensures
    c.runs_join.ensures c.pauses_are_shown.ensures c.stopped_shows_no_more.ensures in
    let left : ℕ = (c.used.result + c.args.steps) - c.used-used.result in
    if_known _ (seen c.args.console.now).left (λ lines is.
    let i = c.loop.invariant.told lines is in
    goes_stops laws c.args.program.now c.args.pausing lines c.args.runner.now
    c.args.draws.now
    (seen c.args.console.now) (seen c.loop.console) c.loop.runner c.loop.draws i.count
    c.loop.invariant.program i.told c.requires.range c.after.result
    (c.after.ensures ∙ ap (awaited c.args.pausing) c.used-used.ensures) left c.args.steps
    (omega (
      arith,
      c.if-used-end.false,
      c.used.ensures,
      c.used-used.ensures,
      c.loop.invariant.used,
    ))
    (omega (arith, c.used.ensures, c.used-used.ensures, c.loop.invariant.used))
    (seen c.go.new.console) c.in_ok-paused.paused c.in-Stopped.stop c.go.new.runner c.go.new.draws
    c.in-Stopped.is
    (known _ (seen c.loop.console).left _ i.told.lines c.in_ok-paused.ensures.goes))

pub returns-in_err-say_pause : goal.returns-in_err-say_pause
returns-in_err-say_pause g c =
    let seen = g.C.Console.seen in
    let laws = laws_of c.pieces_join.ensures c.spent_goes_on.ensures c.stopped_stays.ensures
    c.runs_join.ensures c.pauses_are_shown.ensures c.stopped_shows_no_more.ensures in
    let residual = c.from_residual-in_err-say_pause in
    let e = err_from_is_err_and residual.result residual.ensures.1 in
    let left : ℕ = (c.used.result + c.args.steps) - c.used-used.result in
    rw (e.1)
    (record {
      runs = if_known _ (seen c.args.console.now).left (λ lines is.
          let i = c.loop.invariant.told lines is in
          line_fails laws c.args.program.now c.args.pausing lines c.args.runner.now
          c.args.draws.now
          (seen c.args.console.now) (seen c.loop.console) c.loop.runner c.loop.draws i.count
          c.loop.invariant.program i.told c.requires.range c.after.result
          (c.after.ensures ∙ ap (awaited c.args.pausing) c.used-used.ensures) left c.args.steps
          (omega (
            arith,
            c.if-used-end.false,
            c.used.ensures,
            c.used-used.ensures,
            c.loop.invariant.used,
          ))
          (omega (arith, c.used.ensures, c.used-used.ensures, c.loop.invariant.used))
          (seen c.go.new.console) (seen c.say_pause.new.console) c.go.new.runner c.go.new.draws
          e.0 c.in_ok-paused.paused c.in_default-paused.not-Stopped
          (known _ (seen c.loop.console).left _ i.told.lines c.in_ok-paused.ensures.goes)
          c.in_err-say_pause.ensures.part);
      bounded = omega (
        arith,
        c.loop.invariant.bounded,
        c.go.ensures.bounded,
        c.say_pause.ensures.bounded,
      );
      cause = later_cause (seen c.args.console.now).faults (seen c.loop.console).faults
          (seen c.go.new.console).faults (seen c.say_pause.new.console).faults e.0
          c.loop.invariant.steady c.in_ok-paused.ensures.cause.steady
          c.in_err-say_pause.ensures.cause;
      program = c.go.ensures.program ∙ c.loop.invariant.program;
      stays_whole = tt;
      few_used = omega (
        arith,
        c.loop.invariant.used,
        c.go.ensures.few_used,
        c.used.ensures,
        c.used-used.ensures,
      );
    })

pub loop-preserved : goal.loop-preserved
loop-preserved g c =
    let seen = g.C.Console.seen in
    let laws = laws_of c.pieces_join.ensures c.spent_goes_on.ensures c.stopped_stays.ensures
    c.runs_join.ensures c.pauses_are_shown.ensures c.stopped_shows_no_more.ensures in
    let left : ℕ = (c.used.result + c.args.steps) - c.used-used.result in
    record {
      whole = c.in_ok-paused.ensures.breaks.0 refl;
      used = omega (
        arith,
        c.loop.invariant.used,
        c.go.ensures.few_used,
        c.used.ensures,
        c.used-used.ensures,
      );
      program = c.go.ensures.program ∙ c.loop.invariant.program;
      bounded = omega (
        arith,
        c.loop.invariant.bounded,
        c.go.ensures.bounded,
        c.say_pause.ensures.bounded,
      );
      steady = c.in_ok-say_pause.ensures.cause.steady ∙ c.in_ok-paused.ensures.cause.steady
          ∙ c.loop.invariant.steady;
      told = λ lines is.
          let i = c.loop.invariant.told lines is in
          goes_pauses laws c.args.program.now c.args.pausing lines c.args.runner.now
          c.args.draws.now
          (seen c.args.console.now) (seen c.loop.console) c.loop.runner c.loop.draws i.count
          c.loop.invariant.program i.told c.requires.range c.after.result
          (c.after.ensures ∙ ap (awaited c.args.pausing) c.used-used.ensures) left c.args.steps
          (omega (
            arith,
            c.if-used-end.false,
            c.used.ensures,
            c.used-used.ensures,
            c.loop.invariant.used,
          ))
          (omega (arith, c.used.ensures, c.used-used.ensures, c.loop.invariant.used))
          (seen c.go.new.console) (seen c.say_pause.new.console) c.go.new.runner c.go.new.draws
          _ c.loop.counter c.in_ok-paused.paused c.in_default-paused.not-Stopped i.later
          (known _ (seen c.loop.console).left _ i.told.lines c.in_ok-paused.ensures.goes)
          c.in_ok-say_pause.ensures;
    }
