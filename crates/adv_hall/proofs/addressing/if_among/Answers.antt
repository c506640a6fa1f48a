use Rattle.std.proofs.Common.{◌∙◌, sym, ap, arith}
use Rattle.std.specs.Fmt.{decimal}
use Rattle.adv_hall.proofs.Numbers.{none-among, is-among, told-same, told-other}
use Rattle.adv_hall.proofs.addressing.if_among.Goals.{then-number-eq0-via-then-number-eq0, then-number-eq0-via-else-number-eq0+then-number-count, then-number-eq0-via-else-number-eq0+else-number-count+then-ne}
use Rattle.adv_hall.proofs.addressing.if_among.Goals as goal

pub returns-then-number-eq0 : goal.returns-then-number-eq0
returns-then-number-eq0 c = sym (none-among c.args.count c.args.word.now (λ j first last is.
    let same = c.requires j (omega (arith, last, c.ranges.count.fits)) is in
    elim c.then-number-eq0.branch [
      | then-number-eq0-via-then-number-eq0 w ↦
          omega (arith, first, same, w.if-number-eq0.true)
      | then-number-eq0-via-else-number-eq0+then-number-count w ↦
          omega (arith, last, same, w.if-number-count.true)
      | then-number-eq0-via-else-number-eq0+else-number-count+then-ne w ↦
          told-other w.as_bytes.result.now c.args.word.now w.ne.result w.ne.ensures w.if-ne.true
          (w.as_bytes.ensures.value ∙ w.format.ensures.text ∙ ap decimal (sym same) ∙ is)
    ]))

pub returns : goal.returns
returns c = sym (is-among c.args.count c.args.word.now c.args.number
    (omega (arith, c.ranges.count.fits)) (omega (arith, c.if-number-eq0.false))
    (omega (arith, c.if-number-count.false))
    (sym (c.as_bytes.ensures.value ∙ c.format.ensures.text)
    ∙ told-same c.as_bytes.result.now c.args.word.now c.ne.result c.ne.ensures c.if-ne.false))
