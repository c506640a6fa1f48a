use Rattle.std.proofs.Common.{◌≡◌, ◌∙◌, ◌+◌, ◌-◌, ◌<◌, suc, Ok, refl, sym, ap, subst, arith}
use Rattle.std.specs.Option.{option_to_list}
use Rattle.std.proofs.lemmas.Result.{err_from_is_err_and}
use Rattle.inform_stepper.specs.Pauses.{met}
use Rattle.inform_stepper.proofs.Led.{laws_of, Led, Ran, known, if_known, one_more, led_first, stops_first, stops_after, here, pauses_after, goes_on, all_used, fails_first, fails_after}
use Rattle.inform_stepper.proofs.stepping.go_by_steps.Goals as goal

-- ---- with no step

pub returns-in_err-settled-clause-goes : goal.returns-in_err-settled-clause-goes
returns-in_err-settled-clause-goes g c =
    let seen = g.C.Console.seen in
    let laws = laws_of c.runs_go.ensures c.pieces_join.ensures c.spent_goes_on.ensures c.runs_join.ensures in
    let e = err_from_is_err_and c.from_residual.result c.from_residual.ensures.1 in
    rw (e.1)
    (if_known _ (seen c.args.console.now).left (λ lines is.
    fails_first laws (seen c.args.console.now) c.args.until c.args.steps lines c.args.runner.now c.args.draws.now
    (seen c.run.new.console) _ e.0 c.run.new.self c.run.new.draws
    (known _ (seen c.args.console.now).left lines is c.in_err-settled.ensures.runs)))

pub returns-in_default-clause-goes : goal.returns-in_default-clause-goes
returns-in_default-clause-goes g c =
    let seen = g.C.Console.seen in
    let laws = laws_of c.runs_go.ensures c.pieces_join.ensures c.spent_goes_on.ensures c.runs_join.ensures in
    if_known _ (seen c.args.console.now).left (λ lines is.
    stops_first laws (seen c.args.console.now) c.args.until c.args.steps lines c.args.runner.now c.args.draws.now
    (seen c.run.new.console) c.in_ok-settled.settled c.run.new.self c.run.new.draws c.in_default.not-Spent
    (known _ (seen c.args.console.now).left lines is c.in_ok-settled.ensures.runs))

-- ---- steps

pub loop-left-init : goal.loop-left-init
loop-left-init g c =
    let seen = g.C.Console.seen in
    let laws = laws_of c.runs_go.ensures c.pieces_join.ensures c.spent_goes_on.ensures c.runs_join.ensures in
    let start : 0 ≡ c.args.steps - c.args.steps = omega arith in
    record {
      few = omega arith;
      whole = c.in_ok-settled.ensures.breaks.0 refl;
      used = omega (arith, c.run.ensures.few_used);
      program = c.run.ensures.program;
      bounded = c.run.ensures.bounded;
      steady = c.in_ok-settled.ensures.cause.steady;
      open_is = c.open_routines-before.ensures;
      led = λ lines is.
          subst (Led (seen c.args.console.now) c.args.until c.args.steps lines c.args.runner.now c.args.draws.now (seen c.run.new.console) c.run.new.self c.run.new.draws) start
          (led_first laws (seen c.args.console.now) c.args.until c.args.steps lines c.args.runner.now c.args.draws.now
          (seen c.run.new.console) c.run.new.self c.run.new.draws
          (subst (λ stop. Ran (seen c.args.console.now) c.args.until c.args.steps lines c.args.runner.now c.args.draws.now (seen c.run.new.console) (Ok stop) c.run.new.self c.run.new.draws 0) c.in-Spent.is
          (known _ (seen c.args.console.now).left lines is c.in_ok-settled.ensures.runs)));
    }

pub loop-left-preserved : goal.loop-left-preserved
loop-left-preserved g c =
    let seen = g.C.Console.seen in
    let laws = laws_of c.runs_go.ensures c.pieces_join.ensures c.spent_goes_on.ensures c.runs_join.ensures in
    let i = c.loop-left.invariant in
    let n = c.args.steps - c.loop-left.left in
    let some : 0 < c.loop-left.left = c.loop-left-test.true in
    let few : n < c.args.steps = omega (arith, some, i.few) in
    let next : n + 1 ≡ c.args.steps - (c.loop-left.left - 1) = omega (arith, some, i.few) in
    let found = option_to_list c.entered-found.result in
    let step = c.run-in-loop-left in
    record {
      few = omega (arith, i.few);
      whole = c.in_ok-stepped.ensures.breaks.0 refl;
      used = omega (arith, some, i.used, step.ensures.few_used);
      program = step.ensures.program ∙ i.program;
      bounded = omega (arith, i.bounded, step.ensures.bounded);
      steady = c.in_ok-stepped.ensures.cause.steady ∙ i.steady;
      open_is = c.open_routines-now.ensures;
      led = λ lines is.
          let ran : Ran (seen c.args.console.now) c.args.until c.args.steps lines c.args.runner.now c.args.draws.now (seen step.new.console) (Ok c.in_ok-stepped.stepped) step.new.self step.new.draws (suc n) =
          one_more laws (seen c.args.console.now) c.args.until c.args.steps lines c.args.runner.now c.args.draws.now
          (seen c.loop-left.console) (seen step.new.console) (Ok c.in_ok-stepped.stepped) c.loop-left.runner step.new.self c.loop-left.draws step.new.draws n (i.led lines is) i.program c.in_ok-stepped.ensures.runs in
          let spent = subst (λ stop. Ran (seen c.args.console.now) c.args.until c.args.steps lines c.args.runner.now c.args.draws.now (seen step.new.console) (Ok stop) step.new.self step.new.draws (suc n)) c.in-Spent-stepped.is ran in
          let same = here laws (seen c.args.console.now) c.args.until c.args.steps lines c.args.runner.now c.args.draws.now
          (seen c.loop-left.console) (seen step.new.console) c.loop-left.runner step.new.self c.loop-left.draws step.new.draws n few (i.led lines is)
          c.loop-left.before c.open_routines-now.result found spent i.open_is c.open_routines-now.ensures c.entered-found.ensures in
          subst (Led (seen c.args.console.now) c.args.until c.args.steps lines c.args.runner.now c.args.draws.now (seen step.new.console) step.new.self step.new.draws) next
          (goes_on laws (seen c.args.console.now) c.args.until c.args.steps lines c.args.runner.now c.args.draws.now
          (seen c.loop-left.console) (seen step.new.console) c.loop-left.runner step.new.self c.loop-left.draws step.new.draws n few (i.led lines is)
          found spent same (ap (met c.args.until found) (sym c.used.ensures) ∙ sym c.met.ensures ∙ c.in-None.is));
    }

pub returns-in_err-stepped-clause-goes : goal.returns-in_err-stepped-clause-goes
returns-in_err-stepped-clause-goes g c =
    let seen = g.C.Console.seen in
    let laws = laws_of c.runs_go.ensures c.pieces_join.ensures c.spent_goes_on.ensures c.runs_join.ensures in
    let i = c.loop-left.invariant in
    let n = c.args.steps - c.loop-left.left in
    let some : 0 < c.loop-left.left = c.loop-left-test.true in
    let few : n < c.args.steps = omega (arith, some, i.few) in
    let step = c.run-in-loop-left in
    let e = err_from_is_err_and c.from_residual-in_err-stepped.result c.from_residual-in_err-stepped.ensures.1 in
    rw (e.1)
    (if_known _ (seen c.args.console.now).left (λ lines is.
    fails_after laws (seen c.args.console.now) c.args.until c.args.steps lines c.args.runner.now c.args.draws.now
    (seen c.loop-left.console) (seen step.new.console) _ e.0 c.loop-left.runner step.new.self c.loop-left.draws step.new.draws n few (i.led lines is)
    (one_more laws (seen c.args.console.now) c.args.until c.args.steps lines c.args.runner.now c.args.draws.now
    (seen c.loop-left.console) (seen step.new.console) _ c.loop-left.runner step.new.self c.loop-left.draws step.new.draws n (i.led lines is) i.program c.in_err-stepped.ensures.runs)))

pub returns-in_default-stepped-clause-goes : goal.returns-in_default-stepped-clause-goes
returns-in_default-stepped-clause-goes g c =
    let seen = g.C.Console.seen in
    let laws = laws_of c.runs_go.ensures c.pieces_join.ensures c.spent_goes_on.ensures c.runs_join.ensures in
    let i = c.loop-left.invariant in
    let n = c.args.steps - c.loop-left.left in
    let some : 0 < c.loop-left.left = c.loop-left-test.true in
    let few : n < c.args.steps = omega (arith, some, i.few) in
    let step = c.run-in-loop-left in
    if_known _ (seen c.args.console.now).left (λ lines is.
    stops_after laws (seen c.args.console.now) c.args.until c.args.steps lines c.args.runner.now c.args.draws.now
    (seen c.loop-left.console) (seen step.new.console) c.loop-left.runner step.new.self c.loop-left.draws step.new.draws n few (i.led lines is)
    c.in_ok-stepped.stepped c.in_default-stepped.not-Spent
    (one_more laws (seen c.args.console.now) c.args.until c.args.steps lines c.args.runner.now c.args.draws.now
    (seen c.loop-left.console) (seen step.new.console) (Ok c.in_ok-stepped.stepped) c.loop-left.runner step.new.self c.loop-left.draws step.new.draws n (i.led lines is) i.program c.in_ok-stepped.ensures.runs))

pub returns-in-Some-clause-goes : goal.returns-in-Some-clause-goes
returns-in-Some-clause-goes g c =
    let seen = g.C.Console.seen in
    let laws = laws_of c.runs_go.ensures c.pieces_join.ensures c.spent_goes_on.ensures c.runs_join.ensures in
    let i = c.loop-left.invariant in
    let n = c.args.steps - c.loop-left.left in
    let some : 0 < c.loop-left.left = c.loop-left-test.true in
    let few : n < c.args.steps = omega (arith, some, i.few) in
    let found = option_to_list c.entered-found.result in
    let step = c.run-in-loop-left in
    if_known _ (seen c.args.console.now).left (λ lines is.
    let ran : Ran (seen c.args.console.now) c.args.until c.args.steps lines c.args.runner.now c.args.draws.now (seen step.new.console) (Ok c.in_ok-stepped.stepped) step.new.self step.new.draws (suc n) =
    one_more laws (seen c.args.console.now) c.args.until c.args.steps lines c.args.runner.now c.args.draws.now
    (seen c.loop-left.console) (seen step.new.console) (Ok c.in_ok-stepped.stepped) c.loop-left.runner step.new.self c.loop-left.draws step.new.draws n (i.led lines is) i.program c.in_ok-stepped.ensures.runs in
    let spent = subst (λ stop. Ran (seen c.args.console.now) c.args.until c.args.steps lines c.args.runner.now c.args.draws.now (seen step.new.console) (Ok stop) step.new.self step.new.draws (suc n)) c.in-Spent-stepped.is ran in
    let same = here laws (seen c.args.console.now) c.args.until c.args.steps lines c.args.runner.now c.args.draws.now
    (seen c.loop-left.console) (seen step.new.console) c.loop-left.runner step.new.self c.loop-left.draws step.new.draws n few (i.led lines is)
    c.loop-left.before c.open_routines-now.result found spent i.open_is c.open_routines-now.ensures c.entered-found.ensures in
    pauses_after laws (seen c.args.console.now) c.args.until c.args.steps lines c.args.runner.now c.args.draws.now
    (seen c.loop-left.console) (seen step.new.console) c.loop-left.runner step.new.self c.loop-left.draws step.new.draws n few (i.led lines is)
    found c.in-Some.paused spent same (ap (met c.args.until found) (sym c.used.ensures) ∙ sym c.met.ensures ∙ c.in-Some.is))

pub returns-clause-goes : goal.returns-clause-goes
returns-clause-goes g c =
    let seen = g.C.Console.seen in
    let laws = laws_of c.runs_go.ensures c.pieces_join.ensures c.spent_goes_on.ensures c.runs_join.ensures in
    let i = c.loop-left.invariant in
    let n = c.args.steps - c.loop-left.left in
    if_known _ (seen c.args.console.now).left (λ lines is.
    all_used laws (seen c.args.console.now) c.args.until c.args.steps lines c.args.runner.now c.args.draws.now
    (seen c.loop-left.console) c.loop-left.runner c.loop-left.draws n (omega (arith, c.loop-left-test.false)) (i.led lines is))
