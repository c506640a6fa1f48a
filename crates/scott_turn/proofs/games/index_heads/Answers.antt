use Rattle.std.proofs.Common.{nat_eq}
use Rattle.std.proofs.lemmas.Result.{err_from_is_err_and}
use Rattle.indexmap.specs.IndexMap.{get}
use Rattle.scott_turn.proofs.Groups.{line_before, firsts_after, index_step, index_whole}
use Rattle.scott_turn.proofs.games.index_heads.Goals as goal

pub put_first-requires : goal.put_first-requires
put_first-requires c = record {
  there = line_before c.args.db.now c.actions-lines.result.now c.loop-line.line c.actions-lines.ensures.value c.loop-line.auto.line c.loop-line-test.true;
  rest = firsts_after c.args.db.now c.loop-line.line (get nat_eq c.loop-line.firsts) c.loop-line-test.true c.loop-line.invariant.has_firsts;
}

pub loop-line-preserved : goal.loop-line-preserved
loop-line-preserved c =
    let there = line_before c.args.db.now c.actions-lines.result.now c.loop-line.line c.actions-lines.ensures.value c.loop-line.auto.line c.loop-line-test.true in
    index_step c.args.db.now c.loop-line.line (get nat_eq c.loop-line.firsts) (get nat_eq c.put_first.new.firsts) c.loop-line.nexts.items c.in_ok-nexts-2.field-0 c.loop-line-test.true there
    c.loop-line.invariant c.in_ok-nexts-2.ensures.firsts c.in_ok-nexts-2.ensures.next

pub returns : goal.returns
returns c = index_whole c.args.db.now c.loop-line.line (get nat_eq c.loop-line.firsts) c.loop-line.nexts.items c.loop-line-test.false c.loop-line.invariant

pub returns-in_err-nexts : goal.returns-in_err-nexts
returns-in_err-nexts c = let p = err_from_is_err_and c.from_residual.result c.from_residual.ensures.1 in rw (p.1) tt

pub returns-in_err-nexts-2 : goal.returns-in_err-nexts-2
returns-in_err-nexts-2 c = let p = err_from_is_err_and c.from_residual-in_err-nexts-2.result c.from_residual-in_err-nexts-2.ensures.1 in rw (p.1) tt
