use Rattle.std.proofs.Common.{◌∙◌, cond, Some, ◌+◌, drop, sym, ap}
use Rattle.scott_rules.specs.Transfer.{item_named}
use Rattle.scott_turn.proofs.Items.{item_named-at}
use Rattle.scott_turn.proofs.choosing.least_named.Goals as goal

pub returns-then-is_named-clause-value : goal.returns-then-is_named-clause-value
returns-then-is_named-clause-value c =
    let rest = item_named c.args.transfer c.args.size c.args.word.now (c.loop-i.i + 1) (drop (c.loop-i.i + 1) c.args.items.now) c.args.state.now in
    sym (c.loop-i.invariant
    ∙ item_named-at c.args.transfer c.args.size c.args.word.now c.loop-i.i c.args.items.now c.args.state.now c.index-items-i.result c.is_named.result c.loop-i-test.true c.index-items-i.is c.is_named.ensures
    ∙ ap (λ b. cond b (Some c.loop-i.i) rest) c.if-is_named.true)

pub loop-i-preserved : goal.loop-i-preserved
loop-i-preserved c =
    let rest = item_named c.args.transfer c.args.size c.args.word.now (c.loop-i.i + 1) (drop (c.loop-i.i + 1) c.args.items.now) c.args.state.now in
    c.loop-i.invariant
    ∙ item_named-at c.args.transfer c.args.size c.args.word.now c.loop-i.i c.args.items.now c.args.state.now c.index-items-i.result c.is_named.result c.loop-i-test.true c.index-items-i.is c.is_named.ensures
    ∙ ap (λ b. cond b (Some c.loop-i.i) rest) c.if-is_named.false
