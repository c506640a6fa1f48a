use Rattle.std.proofs.Common.{◌∙◌, List, refl, sym, ap, subst, arith}
use Rattle.inform_lexer.specs.declared.kinds.Token.{Token}
use Rattle.inform_lexer.specs.Pieces.{added}
use Rattle.inform_lexer.specs.Tokens.{token_step, InOrder}
use Rattle.inform_lexer.proofs.Cutting.{added_none}
use Rattle.inform_lexer.proofs.StringLoops.{within}
use Rattle.inform_lexer.proofs.TokenLoop.{begun, read, rest, reads_on}
use Rattle.inform_lexer.proofs.lexing.read.Goals as goal

pub loop-at-init : goal.loop-at-init
loop-at-init c =
    let whole = c.args.bytes.now in
    let none = c.in_ok-tokens.ensures.items in
    record {
      inside = omega arith;
      same = ap (λ (xs : List Token). added xs (read 0 whole)) none ∙ added_none _ ∙ sym (begun whole);
      order = subst (λ (xs : List Token). InOrder 0 0 xs) (sym none) (omega arith);
    }

pub loop-at-preserved : goal.loop-at-preserved
loop-at-preserved c =
    let more = c.in_ok-more.more in
    let whole = c.args.bytes.now in
    let at = c.loop-at.at in
    let l = c.loop-at in
    record {
      inside = within whole at more c.loop-at-test.true c.in_ok-more.ensures.within;
      same =
          reads_on whole l.tokens.items c.read_piece.new.tokens.items at more (token_step tt at (rest whole at)) c.loop-at-test.true refl c.in_ok-more.ensures.reads
          ∙ l.invariant.same;
      order = c.in_ok-more.ensures.order l.invariant.order;
    }
