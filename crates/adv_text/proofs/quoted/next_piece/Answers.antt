use Rattle.std.proofs.Common.{◌≡◌, ℕ, ◌+◌, ◌≤◌, false, length, take, sym, subst, arith}
use Rattle.std.proofs.lemmas.Result.{err_from_is_err_and}
use Rattle.std.proofs.lemmas.List.{length-take}
use Rattle.std.proofs.lemmas.List.Sums.{prefix_len_passes}
use Rattle.adv_text.specs.Spelling.{is_plain}
use Rattle.adv_text.specs.Reading.{inside_at, IsLong}
use Rattle.adv_text.proofs.Pieces.{long-stands, run-kept, run-long, first-counts, ArePlain}
use Rattle.adv_text.proofs.quoted.next_piece.Goals as goal

pub returns-in_err-keep-clause-fault : goal.returns-in_err-keep-clause-fault
returns-in_err-keep-clause-fault c =
    let kept = c.args.text.now.items in
    let rest = c.args.rest.now in
    let n = c.plain_length-length.result in
    let plain : ArePlain rest n = λ k within. prefix_len_passes is_plain rest k 0 (omega (arith, within, c.plain_length-length.ensures.value)) in
    let size : length (take n rest) ≡ n = omega (arith, length-take {A = ℕ}, c.plain_length-length.ensures.within) in
    let p = err_from_is_err_and c.from_residual.result c.from_residual.ensures.1 in
    rw (p.1, p.2, c.if-held.false)
    (λ at. long-stands c.in_err-keep.field-0.0 c.args.opened (length kept + n) (inside_at c.args.opened false kept at rest) (subst (λ m. IsLong c.in_err-keep.field-0.0 c.args.opened (length kept + m)) size c.in_err-keep.ensures.long)
    (λ long. run-long c.args.opened kept rest n at c.plain_length-length.ensures.within plain c.requires long))

pub returns-then-is_plain-clause-piece : goal.returns-then-is_plain-clause-piece
returns-then-is_plain-clause-piece c =
    let kept = c.args.text.now.items in
    let rest = c.args.rest.now in
    let n = c.plain_length-length.result in
    let plain : ArePlain rest n = λ k within. prefix_len_passes is_plain rest k 0 (omega (arith, within, c.plain_length-length.ensures.value)) in
    let first : 1 ≤ n = rw c.plain_length-length.ensures.value (first-counts rest c.in-len1-up.len_at_least (sym c.if-is_plain.ensures)) in
    let size : length (take n rest) ≡ n = omega (arith, length-take {A = ℕ}, c.plain_length-length.ensures.within) in
    let room : length kept + n ≤ 4096 = omega (arith, size, c.in_ok-keep.ensures.short) in (
      first,
      c.plain_length-length.ensures.within,
      λ at. rw (c.if-held.false, c.in_ok-keep.ensures.kept)
          (run-kept c.args.opened kept rest n at c.plain_length-length.ensures.within plain room),
    )
