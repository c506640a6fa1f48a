use Rattle.std.proofs.Common.{◌∙◌, ◌+◌, length, drop, refl, ap, sym, arith}
use Rattle.std.proofs.lemmas.List.{take_rest}
use Rattle.std.proofs.lemmas.Result.{err_from_is_err_and}
use Rattle.adv_draws.specs.Run.{draw_of, first_run, runs_after}
use Rattle.adv_draws.specs.Listed.{followed_by, draws_of}
use Rattle.adv_draws.proofs.Counts.{length-listed_draws}
use Rattle.adv_draws.proofs.Stepping.{space_step, draw_step, fault_step, end_step, followed_by-none, followed_by-one, first_run-within, AllDraws-more}
use Rattle.adv_draws.proofs.supplies.Draws.listed.Goals as goal

pub loop-offset-preserved-then-is_whitespace : goal.loop-offset-preserved-then-is_whitespace
loop-offset-preserved-then-is_whitespace c =
    let step = space_step c.loop-offset.offset c.args.bytes.now c.loop-offset-test.true (sym c.is_whitespace.ensures ∙ c.if-is_whitespace.true) in
    record {
      goes_on = ap (λ runs. followed_by c.loop-offset.draws.items (draws_of runs)) (sym step) ∙ c.loop-offset.invariant.goes_on;
      drawn = c.loop-offset.invariant.drawn;
      within = omega arith;
    }

pub loop-offset-preserved : goal.loop-offset-preserved
loop-offset-preserved c =
    let whole = take_rest c.args.bytes.now c.loop-offset.offset in
    let drawn = ap (λ text. draw_of (first_run text)) (sym whole) ∙ c.in-Some.ensures.value in
    let sized = ap (λ text. length (first_run text)) (sym whole) ∙ c.in-Some.ensures.size in
    let step = draw_step c.loop-offset.offset c.in-Some.draw c.in-Some.size c.args.bytes.now c.loop-offset-test.true (sym c.is_whitespace.ensures ∙ c.if-is_whitespace.false) drawn sized in
    let rest = draws_of (runs_after 32 (c.loop-offset.offset + (c.in-Some.size + 1)) (drop (c.loop-offset.offset + (c.in-Some.size + 1)) c.args.bytes.now)) in
    record {
      goes_on =
          ap (λ draws. followed_by draws rest) c.in_ok-push.ensures.items
          ∙ sym (followed_by-one c.loop-offset.draws.items c.in-Some.draw rest)
          ∙ sym (ap (followed_by c.loop-offset.draws.items) step)
          ∙ c.loop-offset.invariant.goes_on;
      drawn = rw c.in_ok-push.ensures.items (AllDraws-more c.loop-offset.draws.items c.in-Some.draw c.loop-offset.invariant.drawn c.in-Some.ensures.range);
      within = first_run-within c.loop-offset.offset c.in-Some.size c.args.bytes.now c.loop-offset-test.true sized;
    }

pub loop-offset-init : goal.loop-offset-init
loop-offset-init c =
    rw c.new-draws.ensures.items
    record {
      goes_on = followed_by-none (draws_of (runs_after 32 0 c.args.bytes.now));
      drawn = refl;
      within = omega arith;
    }

pub returns-in_default : goal.returns-in_default
returns-in_default c =
    let bytes = c.args.bytes.now in
    let none = ap (λ text. draw_of (first_run text)) (sym (take_rest bytes c.loop-offset.offset)) ∙ c.in_default.ensures.refused in
    let step = fault_step c.loop-offset.offset bytes c.loop-offset-test.true (sym c.is_whitespace.ensures ∙ c.if-is_whitespace.false) none in
    record {
      listed = tt;
      fresh = tt;
      range = tt;
      short = tt;
      refused = sym c.loop-offset.invariant.goes_on ∙ ap (followed_by c.loop-offset.draws.items) step;
    }

pub returns-in_err-push : goal.returns-in_err-push
returns-in_err-push c =
    let fault = err_from_is_err_and c.from_residual.result c.from_residual.ensures.1 in
    rw (fault.1, fault.2) record { listed = tt; fresh = tt; range = tt; short = tt; refused = tt }

pub returns : goal.returns
returns c =
    let bytes = c.args.bytes.now in
    let draws = c.loop-offset.draws.items in
    let listed = sym c.loop-offset.invariant.goes_on ∙ end_step c.loop-offset.offset draws bytes c.loop-offset-test.false in
    record {
      listed = listed;
      fresh = refl;
      range = c.loop-offset.invariant.drawn;
      short = length-listed_draws bytes draws listed;
      refused = tt;
    }
