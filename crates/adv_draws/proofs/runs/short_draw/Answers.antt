use Rattle.std.proofs.Common.{◌+◌, ◌-◌, ◌*◌, ◌∷◌, get_or, length, ap, sym, ◌∙◌, arith}
use Rattle.adv_draws.specs.Run.{draw_of}
use Rattle.adv_draws.proofs.RunLemmas.{run_at-solid, run_at-space, digit_solid, one_digit, two_digits, is_draw_in}
use Rattle.adv_draws.proofs.runs.short_draw.Goals as goal

pub returns-then-text-lt3 : goal.returns-then-text-lt3
returns-then-text-lt3 c = record { value = tt; range = tt; size = tt }

pub returns-then-is_whitespace : goal.returns-then-is_whitespace
returns-then-is_whitespace c =
    let text = c.args.text.now in
    let first = get_or text 0 0 in
    let run =
    run_at-solid text 0 (omega arith) (digit_solid first (omega arith))
    ∙ ap (λ rest. first ∷ rest) (run_at-space text 1 (omega arith) (sym c.is_whitespace.ensures ∙ c.if-is_whitespace.true))
    in
    record {
      value = ap draw_of run ∙ one_digit first (omega arith) (omega arith);
      range = is_draw_in (first - 48) (omega arith) (omega arith);
      size = ap length run;
    }

pub returns-then-text-lt48 : goal.returns-then-text-lt48
returns-then-text-lt48 c = record { value = tt; range = tt; size = tt }

pub returns : goal.returns
returns c =
    let text = c.args.text.now in
    let first = get_or text 0 0 in
    let second = get_or text 1 0 in
    let run =
    run_at-solid text 0 (omega arith) (digit_solid first (omega arith))
    ∙ ap (λ rest. first ∷ rest) (run_at-solid text 1 (omega arith) (sym c.is_whitespace.ensures ∙ c.if-is_whitespace.false))
    ∙ ap (λ rest. first ∷ second ∷ rest) (run_at-space text 2 (omega arith) (sym c.is_whitespace-else-text-gt57-2.ensures ∙ c.if-not-is_whitespace.false))
    in
    record {
      value = ap draw_of run ∙ two_digits first second (omega arith) (omega arith) (omega arith) (omega arith);
      range = is_draw_in ((first - 48) * 10 + (second - 48)) (omega arith) (omega arith);
      size = ap length run;
    }
