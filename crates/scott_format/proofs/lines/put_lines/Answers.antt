use Rattle.std.proofs.Common.{sym, arith}
use Rattle.std.proofs.lemmas.List.{append-nil}
use Rattle.std.proofs.lemmas.List.Sums.{AllPass-from_list_all}
use Rattle.std.proofs.lemmas.Result.{err_from_is_err_and}
use Rattle.scott_format.specs.Canon.{line_text}
use Rattle.scott_format.proofs.Texts.{one_more, all_written}
use Rattle.scott_format.proofs.lines.put_lines.Goals as goal

pub loop-entry-init : goal.loop-entry-init
loop-entry-init g c = sym (append-nil c.args.out.now.items)

pub put-requires : goal.put-requires
put-requires g c =
    rw c.entry-item.is (AllPass-from_list_all g.L.Line.fits c.args.entries.now c.requires c.loop-entry.entry-index c.entry-item.result c.loop-entry-test.true)

pub loop-entry-preserved : goal.loop-entry-preserved
loop-entry-preserved g c =
    let entry = c.entry-item.result in
    one_more (λ x. line_text (g.L.Line.line x)) c.args.out.now.items c.loop-entry.out.items c.put.new.out.items c.args.entries.now c.loop-entry.entry-index entry entry
    (omega arith) c.entry-item.is c.loop-entry.invariant c.in_ok-put.ensures

pub returns-in_err-put : goal.returns-in_err-put
returns-in_err-put g c = rw ((err_from_is_err_and c.from_residual.result c.from_residual.ensures.1).1) tt

pub returns : goal.returns
returns g c =
    all_written (λ x. line_text (g.L.Line.line x)) c.args.out.now.items c.loop-entry.out.items c.args.entries.now c.loop-entry.entry-index
    c.loop-entry.auto.entry-index-end c.loop-entry-test.false c.loop-entry.invariant
