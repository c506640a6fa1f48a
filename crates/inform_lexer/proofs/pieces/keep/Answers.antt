use Rattle.std.proofs.Common.{◌+◌, List, Some, sym, subst, arith}
use Rattle.inform_lexer.specs.declared.kinds.Token.{Token}
use Rattle.inform_lexer.specs.Tokens.{InOrder}
use Rattle.inform_lexer.proofs.TokenLoop.{next_one, wider}
use Rattle.inform_lexer.proofs.pieces.keep.Goals as goal

pub returns-in_ok-push-clause-order : goal.returns-in_ok-push-clause-order
returns-in_ok-push-clause-order c = λ order.
    let at = c.args.at in
    let more = c.args.found.more in
    subst (λ (xs : List Token). InOrder (at + 1 + more) 0 xs) (sym c.in_ok-push.ensures.items)
    (next_one at 0 c.args.tokens.now.items (Some c.in-Some.kind) more order)

pub returns-in_default-clause-order : goal.returns-in_default-clause-order
returns-in_default-clause-order c = λ order.
    wider c.args.at (c.args.at + 1 + c.args.found.more) 0 c.args.tokens.now.items (omega arith) order
