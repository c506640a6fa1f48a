use Rattle.std.proofs.Common.{◌∙◌, ℕ, ◌≤◌, ◌<◌, ◌+◌, ◌*◌, get_or, length, sym, subst, arith}
use Rattle.adv_text.proofs.ShortNumbers.{HasRead, begun, goes_on, ends, digit_small, more_digits_fit, few_digits_fit}
use Rattle.adv_text.proofs.fast.short_amount.Goals as goal

pub loop-digits-init : goal.loop-digits-init
loop-digits-init c =
    let digit = sym c.is_ascii_digit.ensures.value ∙ c.if-not-is_ascii_digit.false in
    record {
      read = subst (λ (n : ℕ). HasRead c.args.bytes.now n 1) (sym c.from-amount.ensures) (begun c.args.bytes.now (omega (arith, c.if-bytes-lt7.false)) digit);
      small = omega (arith, c.from-amount.ensures, digit_small (get_or c.args.bytes.now 0 0) digit);
    }

-- what is read by then is small
small : (c : goal.After-from) → c.loop-digits.amount < 10000000
small c = few_digits_fit c.loop-digits.amount c.loop-digits.digits 7 (omega (arith, c.loop-digits-test.true)) c.loop-digits.invariant.small

-- the amount of the digit that is read
one_digit : (c : goal.After-from) → c.from.result ≤ 9
one_digit c = omega (arith, c.from.ensures, digit_small (get_or c.args.bytes.now c.loop-digits.digits 0) (sym c.is_ascii_digit-in-loop-digits.ensures.value ∙ c.if-not-is_ascii_digit-2.false))

-- with it the amount is small too
grown : (c : goal.After-from) → c.loop-digits.amount * 10 + c.from.result < 10000000
grown c = few_digits_fit (c.loop-digits.amount * 10 + c.from.result) (c.loop-digits.digits + 1) 7 (omega (arith, c.loop-digits-test.true)) (more_digits_fit c.loop-digits.amount c.loop-digits.digits c.from.result (one_digit c) c.loop-digits.invariant.small)

pub returns-then-not-is_ascii_digit-2-clause-read : goal.returns-then-not-is_ascii_digit-2-clause-read
returns-then-not-is_ascii_digit-2-clause-read c =
    ends c.args.bytes.now c.loop-digits.amount c.loop-digits.digits (omega (arith, c.if-bytes-lt7.false, c.loop-digits-test.true))
    (sym c.is_ascii_digit-in-loop-digits.ensures.value ∙ c.if-not-is_ascii_digit-2.true)
    c.loop-digits.invariant.read

pub returns-then-not-is_ascii_digit-2-clause-small : goal.returns-then-not-is_ascii_digit-2-clause-small
returns-then-not-is_ascii_digit-2-clause-small c =
    few_digits_fit c.loop-digits.amount c.loop-digits.digits 6 (omega (arith, c.loop-digits-test.true)) c.loop-digits.invariant.small

pub overflow_mul-amount : goal.overflow_mul-amount
overflow_mul-amount c = omega (arith, few_digits_fit c.loop-digits.amount c.loop-digits.digits 7 (omega (arith, c.loop-digits-test.true)) c.loop-digits.invariant.small)

pub overflow_add-amount : goal.overflow_add-amount
overflow_add-amount c = omega (arith, small c, one_digit c)

pub loop-digits-preserved : goal.loop-digits-preserved
loop-digits-preserved c =
    let within : c.loop-digits.digits < length c.args.bytes.now = omega (arith, c.if-bytes-lt7.false, c.loop-digits-test.true) in
    let digit = sym c.is_ascii_digit-in-loop-digits.ensures.value ∙ c.if-not-is_ascii_digit-2.false in
    let further = goes_on c.args.bytes.now c.loop-digits.amount c.loop-digits.digits within digit (omega (arith, grown c, c.from.ensures)) c.loop-digits.invariant.read in
    record {
      read = subst (λ (n : ℕ). HasRead c.args.bytes.now (c.loop-digits.amount * 10 + n) (c.loop-digits.digits + 1)) (sym c.from.ensures) further;
      small = more_digits_fit c.loop-digits.amount c.loop-digits.digits c.from.result (one_digit c) c.loop-digits.invariant.small;
    }
