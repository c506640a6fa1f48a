use Rattle.std.proofs.Common.{◌≡◌, ◌∙◌, ℕ, Result, Ok, Err, sym, arith}
use Rattle.adv_hall.proofs.Numbers.{none-among, no-text, is-read}
use Rattle.adv_hall.proofs.addressing.number_among.Goals as goal

pub if_among-requires : goal.if_among-requires
if_among-requires c = λ j few is.
    let text = c.in-Ok.ensures.cases.0 in
    let read = is-read c.in-Ok.text.now c.parse.result c.parse.ensures.value.0 j few
    (is ∙ sym text) in
    ok-same j c.in-Ok-parse.number (sym read ∙ c.in-Ok-parse.is)
  where
    ok-same : {E : Type 0} (x y : ℕ) → ◌≡◌ {A = Result ℕ E} (Ok x) (Ok y) → x ≡ y
    ok-same x y e = cc

pub returns-in-Err-parse : goal.returns-in-Err-parse
returns-in-Err-parse c = sym (none-among c.args.count c.args.word.now (λ j first last is.
    let text = c.in-Ok.ensures.cases.0 in
    let read = is-read c.in-Ok.text.now c.parse.result c.parse.ensures.value.0 j
    (omega (arith, last, c.ranges.count.fits)) (is ∙ sym text) in
    not-both j c.in-Err-parse.field-0 (sym read ∙ c.in-Err-parse.is)))
  where
    not-both : {E : Type 0} (x : ℕ) (y : E) → Ok x ≡ Err y → ⊥
    not-both x y e = absurd cc

pub returns-in-Err : goal.returns-in-Err
returns-in-Err c = sym (no-text c.args.count c.args.word.now c.ranges.count.fits c.in-Err.ensures.cases.0)
