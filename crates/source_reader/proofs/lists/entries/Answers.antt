use Rattle.std.proofs.Common.{◌≡◌, ◌≤◌, ◌<◌, ◌∙◌, true, false, sym, arith}
use Rattle.std.proofs.lemmas.Result.{err_from_is_err_and}
use Rattle.source_reader.specs.Plan.{run}
use Rattle.source_reader.specs.Singles.{is_mark}
use Rattle.source_reader.specs.Lists.{up_to, many, most}
use Rattle.source_reader.proofs.Loops.{begins, stops_at_token, ends, stops_in_entry, goes_on, is_exhausted}
use Rattle.source_reader.proofs.lists.entries.Goals as goal

pub returns-in_err-at : goal.returns-in_err-at
returns-in_err-at g c =
    let p = err_from_is_err_and c.from_residual.result c.from_residual.ensures.1 in
    let less : c.loop-k._k < most = omega arith in
    rw (p.1, p.2)
    (stops_at_token g.P.Piece.plan c.loop-k.entries.items c.loop-k._k most c.loop-k.scan _ c.loop-k.invariant c.in_err-at.field-0.0 less c.in_err-at.ensures)

pub returns-then-is_mark : goal.returns-then-is_mark
returns-then-is_mark g c =
    let less : c.loop-k._k < most = omega arith in
    let t = c.in_ok-at.field-0 in
    let mark : is_mark 125 t.what ≡ true = sym c.is_mark.ensures ∙ c.if-is_mark.true in
    rw c.of.ensures
    (ends g.P.Piece.plan c.loop-k.entries.items c.loop-k._k most c.loop-k.scan _ c.loop-k.invariant t c.any_token.new.scan less c.in_ok-at.ensures mark)

pub returns-in_err-entry : goal.returns-in_err-entry
returns-in_err-entry g c =
    let p = err_from_is_err_and c.from_residual-in_err-entry.result c.from_residual-in_err-entry.ensures.1 in
    let less : c.loop-k._k < most = omega arith in
    let t = c.in_ok-at.field-0 in
    let mark : is_mark 125 t.what ≡ false = sym c.is_mark.ensures ∙ c.if-is_mark.false in
    rw (p.1, p.2)
    (stops_in_entry g.P.Piece.plan c.loop-k.entries.items c.loop-k._k most c.loop-k.scan _ c.loop-k.invariant t c.any_token.new.scan
    c.in_err-entry.field-0.0 less c.in_ok-at.ensures mark c.in_err-entry.ensures)

pub returns : goal.returns
returns g c =
    let le : most ≤ c.loop-k._k = omega arith in
    is_exhausted g.P.Piece.plan c.loop-k.entries.items c.loop-k._k most c.loop-k.scan _ c.loop-k.invariant le

pub loop-k-init : goal.loop-k-init
unfolding many
loop-k-init g c = rw c.new-entries.ensures.items (begins (run (up_to g.P.Piece.plan most) c.args.scan.now))

pub loop-k-preserved : goal.loop-k-preserved
loop-k-preserved g c =
    let less : c.loop-k._k < most = omega arith in
    let t = c.in_ok-at.field-0 in
    let mark : is_mark 125 t.what ≡ false = sym c.is_mark.ensures ∙ c.if-is_mark.false in
    rw c.in_ok-push.ensures.items
    (goes_on g.P.Piece.plan c.loop-k.entries.items c.loop-k._k most c.loop-k.scan _ c.loop-k.invariant t c.any_token.new.scan c.read.new.scan
    c.in_ok-entry.entry less c.in_ok-at.ensures mark c.in_ok-entry.ensures)
