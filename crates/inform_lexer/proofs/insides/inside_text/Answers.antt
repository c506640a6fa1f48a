use Rattle.std.proofs.Common.{◌∙◌, ◌+◌, List, ℕ, false, sym, ap, arith}
use Rattle.inform_lexer.specs.Pieces.{added}
use Rattle.inform_lexer.specs.Views.{piece_of}
use Rattle.inform_lexer.proofs.Cutting.{added_none}
use Rattle.inform_lexer.proofs.StringLoops.{begun, within, text_on, text_refused, read}
use Rattle.inform_lexer.proofs.insides.inside_text.Goals as goal

pub loop-at-init : goal.loop-at-init
loop-at-init c =
    let whole = c.args.inside.now in
    let first = ap (λ (xs : List ℕ). added xs (read false 0 whole)) c.in_ok-text.ensures.items in
    record { inside = omega arith; same = first ∙ added_none _ ∙ sym (begun whole) }

pub loop-at-preserved : goal.loop-at-preserved
loop-at-preserved c =
    let p = c.in-Ok.piece in
    let whole = c.args.inside.now in
    let at = c.loop-at.at in
    let said = ap (λ (xs : List ℕ). added xs (read p.caret (at + 1 + p.more) whole)) c.in_ok-say-in-Ok.ensures in
    record {
      inside = within whole at p.more c.loop-at-test.true c.in-Ok.ensures.within;
      same = said ∙ text_on whole c.loop-at.text.items at c.loop-at.caret (piece_of p) c.loop-at-test.true c.in-Ok.ensures.value ∙ c.loop-at.invariant.same;
    }

pub returns-in-Err : goal.returns-in-Err
returns-in-Err c =
    let nothing = text_refused c.args.inside.now c.loop-at.text.items c.loop-at.at c.loop-at.caret c.in-Err.field-0 c.loop-at-test.true c.in-Err.ensures.value c.loop-at.invariant.same in
    c.new.ensures.items ∙ sym nothing
