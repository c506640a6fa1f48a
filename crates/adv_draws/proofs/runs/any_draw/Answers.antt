use Rattle.std.proofs.Common.{◌≡◌, ◌+◌, ◌∷◌, [], get_or, length, None, ap, sym, refl, ◌∙◌, inl, inr, arith}
use Rattle.adv_draws.specs.Run.{draw_after}
use Rattle.adv_draws.proofs.RunLemmas.{run_at, run_at-solid, run_at-space, run_at-end, drawn, is_draw_in, draw_after-stuck, draw_after-digit}
use Rattle.adv_draws.proofs.runs.any_draw.Goals as goal
use Rattle.adv_draws.proofs.runs.any_draw.Goals.{else-loop-byte-test, then-loop-byte-test+then-is_whitespace}

pub returns-then-not-is_ascii_digit-clause-refused :
    goal.returns-then-not-is_ascii_digit-clause-refused
returns-then-not-is_ascii_digit-clause-refused c =
    let text = c.args.text.now in
    let at = c.loop-byte.byte-index in
    let run = run_at-solid text at c.loop-byte-test.true (sym c.is_whitespace.ensures ∙ c.if-is_whitespace.false) in
    let stuck = elim c.then-not-is_ascii_digit.either as (λ _. draw_after c.loop-byte.number (get_or text at 0 ∷ run_at text (at + 1)) ≡ None) [
      | inl other ↦ draw_after-stuck c.loop-byte.number (get_or text at 0) (run_at text (at + 1)) (inl (sym c.is_ascii_digit.ensures.value ∙ other))
      | inr large ↦ draw_after-stuck c.loop-byte.number (get_or text at 0) (run_at text (at + 1)) (inr large.1)
    ] in
    sym c.loop-byte.invariant.goes_on ∙ ap (draw_after c.loop-byte.number) run ∙ stuck

pub loop-byte-preserved : goal.loop-byte-preserved
loop-byte-preserved c =
    let text = c.args.text.now in
    let at = c.loop-byte.byte-index in
    let run = run_at-solid text at c.loop-byte-test.true (sym c.is_whitespace.ensures ∙ c.if-is_whitespace.false) in
    let digit = draw_after-digit c.loop-byte.number (get_or text at 0) (run_at text (at + 1)) (sym c.is_ascii_digit.ensures.value ∙ c.if-not-is_ascii_digit.false) in
    record {
      small = omega (arith, c.type_inv.text at);
      goes_on =
          rw c.from.ensures
          (sym digit ∙ sym (ap (draw_after c.loop-byte.number) run) ∙ c.loop-byte.invariant.goes_on);
      counted = omega arith;
      longer = omega (arith, ap length run);
    }

pub returns-in-1-to-100 : goal.returns-in-1-to-100
returns-in-1-to-100 c =
    let text = c.args.text.now in
    let at = c.loop-byte.byte-index in
    let ended = elim c.loop-byte-test.branch as (λ _. run_at text at ≡ []) [
      | else-loop-byte-test w ↦ run_at-end text at w.loop-byte-test.false
      | then-loop-byte-test+then-is_whitespace w ↦ run_at-space text at w.loop-byte-test.true (sym w.is_whitespace.ensures ∙ w.if-is_whitespace.true)
    ] in
    record {
      value = sym c.loop-byte.invariant.goes_on ∙ ap (draw_after c.loop-byte.number) ended ∙ drawn c.loop-byte.number c.loop-byte.number (omega arith) (omega arith) refl;
      range = is_draw_in c.loop-byte.number (omega arith) (omega arith);
      size = omega (arith, ap length ended);
      refused = tt;
    }
