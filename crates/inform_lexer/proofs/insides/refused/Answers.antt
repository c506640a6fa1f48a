use Rattle.std.proofs.Common.{◌∙◌, sym, ap, arith}
use Rattle.inform_lexer.specs.Views.{piece_of, refused_at}
use Rattle.inform_lexer.proofs.StringLoops.{begun, within, refused_on}
use Rattle.inform_lexer.proofs.insides.refused.Goals as goal

pub loop-at-init : goal.loop-at-init
loop-at-init c = record { inside = omega arith; same = ap refused_at (sym (begun c.args.inside.now)) }

pub loop-at-preserved : goal.loop-at-preserved
loop-at-preserved c =
    let p = c.in-Ok.piece in
    record {
      inside = within c.args.inside.now c.loop-at.at p.more c.loop-at-test.true c.in-Ok.ensures.within;
      same = refused_on c.args.inside.now c.loop-at.at c.loop-at.caret (piece_of p) c.loop-at-test.true c.in-Ok.ensures.value ∙ c.loop-at.invariant.same;
    }
