use Rattle.std.proofs.Common.{◌+◌, ◌∷◌, true, length}
use Rattle.std.proofs.lemmas.Result.{err_from_is_err_and}
use Rattle.adv_text.specs.Reading.{inside_at}
use Rattle.adv_text.proofs.Pieces.{long-stands, quote-long}
use Rattle.adv_text.proofs.quoted.after_quote.Goals as goal

pub returns-in_err-keep-clause-fault : goal.returns-in_err-keep-clause-fault
returns-in_err-keep-clause-fault c =
    let kept = c.args.text.now.items in
    let p = err_from_is_err_and c.from_residual.result c.from_residual.ensures.1 in
    rw (p.1, p.2)
    (λ at rest. long-stands c.in_err-keep.field-0.0 c.args.opened (length kept + 1) (inside_at c.args.opened true kept at (c.args.byte ∷ rest)) c.in_err-keep.ensures.long
    (λ long. quote-long c.args.opened kept at c.args.byte rest c.if-byte-ne34.false long))
