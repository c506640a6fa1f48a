use Rattle.std.proofs.Common.{◌≡◌, ℕ, ◌+◌, ◌-◌, ◌<◌, take, length, sym, ap, ◌∙◌, arith}
use Rattle.std.proofs.lemmas.Bool.{ne_eqb}
use Rattle.adv_decompiler.specs.Written.{without_zeros}
use Rattle.adv_decompiler.proofs.Zeros.{less-zero, all-kept}
use Rattle.adv_decompiler.proofs.written.without_zeros.Goals as goal
use Rattle.adv_decompiler.proofs.written.without_zeros.Goals.{then-loop-end-test+else-numbers-end-eq0, else-loop-end-test}

pub loop-end-preserved : goal.loop-end-preserved
loop-end-preserved c =
    let xs = c.args.numbers.now in
    let there : c.loop-end.end - 1 < length xs = omega arith in
    let again : c.loop-end.end - 1 + 1 ≡ c.loop-end.end = omega arith in (
      omega arith,
      sym (less-zero xs (c.loop-end.end - 1) there c.if-numbers-end-eq0.true) ∙ ap (λ (n : ℕ). without_zeros (take n xs)) again ∙ c.loop-end.invariant.1,
    )

pub returns : goal.returns
returns c =
    let xs = c.args.numbers.now in
    elim c.loop-end-test.branch [
      | then-loop-end-test+else-numbers-end-eq0 w ↦
          let there : c.loop-end.end - 1 < length xs = omega arith in
          let again : c.loop-end.end - 1 + 1 ≡ c.loop-end.end = omega arith in
          sym (ap (λ (n : ℕ). take n xs) again)
          ∙ sym (all-kept xs (c.loop-end.end - 1) there (ne_eqb _ 0 w.if-numbers-end-eq0.false))
          ∙ ap (λ (n : ℕ). without_zeros (take n xs)) again ∙ c.loop-end.invariant.1
      | else-loop-end-test w ↦
          let none : c.loop-end.end ≡ 0 = omega arith in
          ap (λ (n : ℕ). take n xs) none ∙ sym (ap (λ (n : ℕ). without_zeros (take n xs)) none) ∙ c.loop-end.invariant.1
    ]
