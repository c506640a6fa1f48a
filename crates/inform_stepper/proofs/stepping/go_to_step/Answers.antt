use Rattle.std.proofs.Common.{◌∙◌, sym, arith}
use Rattle.std.proofs.lemmas.Result.{err_from_is_err_and}
use Rattle.inform_stepper.proofs.Led.{laws_of, known, if_known}
use Rattle.inform_stepper.proofs.OneRun.{fails_ahead, stops_ahead, meets_ahead, spends_ahead}
use Rattle.inform_stepper.proofs.stepping.go_to_step.Goals as goal

pub returns-in_err-stop-clause-goes : goal.returns-in_err-stop-clause-goes
returns-in_err-stop-clause-goes g c =
    let seen = g.C.Console.seen in
    let laws = laws_of c.runs_go.ensures c.pieces_join.ensures c.spent_goes_on.ensures
    c.runs_join.ensures in
    let ahead = c.steps_up_to-ahead in
    let e = err_from_is_err_and c.from_residual.result c.from_residual.ensures.1 in
    rw (e.1)
    (if_known _ (seen c.args.console.now).left (λ lines is.
    fails_ahead laws c.stopped_stays.ensures (seen c.args.console.now) c.args.n c.args.steps lines
    c.args.runner.now c.args.draws.now ahead.result ahead.ensures.some ahead.ensures.few
    (λ less. omega (arith, less, ahead.ensures.up_to, c.used.ensures))
    (seen c.run.new.console) _ e.0 c.run.new.self c.run.new.draws
    (known _ (seen c.args.console.now).left lines is c.in_err-stop.ensures.runs)))

pub returns-in-Spent-clause-goes : goal.returns-in-Spent-clause-goes
returns-in-Spent-clause-goes g c =
    let seen = g.C.Console.seen in
    let laws = laws_of c.runs_go.ensures c.pieces_join.ensures c.spent_goes_on.ensures
    c.runs_join.ensures in
    let ahead = c.steps_up_to-ahead in
    if_known _ (seen c.args.console.now).left (λ lines is.
    meets_ahead laws c.stopped_stays.ensures (seen c.args.console.now) c.args.n c.args.steps lines
    c.args.runner.now c.args.draws.now ahead.result ahead.ensures.some ahead.ensures.few
    (λ less. omega (arith, less, ahead.ensures.up_to, c.used.ensures))
    (seen c.run.new.console) c.in_ok-stop.stop c.run.new.self c.run.new.draws c.in-Spent.is
    (known _ (seen c.args.console.now).left lines is c.in_ok-stop.ensures.runs)
    (sym c.used-used.ensures ∙ c.if-used-n.true))

pub returns-in-Spent-2-clause-goes : goal.returns-in-Spent-2-clause-goes
returns-in-Spent-2-clause-goes g c =
    let seen = g.C.Console.seen in
    let laws = laws_of c.runs_go.ensures c.pieces_join.ensures c.spent_goes_on.ensures
    c.runs_join.ensures in
    let ahead = c.steps_up_to-ahead in
    if_known _ (seen c.args.console.now).left (λ lines is.
    spends_ahead laws c.stopped_stays.ensures (seen c.args.console.now) c.args.n c.args.steps lines
    c.args.runner.now c.args.draws.now ahead.result ahead.ensures.some ahead.ensures.few
    (λ less. omega (arith, less, ahead.ensures.up_to, c.used.ensures))
    (seen c.run.new.console) c.in_ok-stop.stop c.run.new.self c.run.new.draws c.in-Spent.is
    (known _ (seen c.args.console.now).left lines is c.in_ok-stop.ensures.runs)
    (λ met. c.if-used-n.false (c.used-used.ensures ∙ met))
    (λ shorter. omega (arith, ahead.ensures.reached shorter, c.used.ensures)))

pub returns-in_default-clause-goes : goal.returns-in_default-clause-goes
returns-in_default-clause-goes g c =
    let seen = g.C.Console.seen in
    let laws = laws_of c.runs_go.ensures c.pieces_join.ensures c.spent_goes_on.ensures
    c.runs_join.ensures in
    let ahead = c.steps_up_to-ahead in
    if_known _ (seen c.args.console.now).left (λ lines is.
    stops_ahead laws c.stopped_stays.ensures (seen c.args.console.now) c.args.n c.args.steps lines
    c.args.runner.now c.args.draws.now ahead.result ahead.ensures.some ahead.ensures.few
    (λ less. omega (arith, less, ahead.ensures.up_to, c.used.ensures))
    (seen c.run.new.console) c.in_ok-stop.stop c.run.new.self c.run.new.draws
    c.in_default.not-Spent
    (known _ (seen c.args.console.now).left lines is c.in_ok-stop.ensures.runs))
