use Rattle.std.proofs.Common.{◌∙◌, ◌<◌, length, refl, sym}
use Rattle.scott_types.specs.Database.{action_at}
use Rattle.scott_turn.proofs.Groups.{comes_first, groups_for-skip, groups_for-end}
use Rattle.scott_turn.proofs.heads.next_head.Goals as goal

pub loop-line-init : goal.loop-line-init
loop-line-init c = refl

pub returns-then-is_head_of : goal.returns-then-is_head_of
returns-then-is_head_of c =
    let db = c.args.db.now in
    let line = c.loop-line.line in
    let there : line < length db.actions = rw c.actions-actions.ensures.value at c.loop-line-test.true in
    comes_first db c.args.verb c.args.from line (action_at db line) c.loop-line.auto.line there refl (sym (rw c.actions-actions.ensures.value at c.is_head_of.ensures) ∙ c.if-is_head_of.true) c.loop-line.invariant

pub loop-line-preserved : goal.loop-line-preserved
loop-line-preserved c =
    let db = c.args.db.now in
    let line = c.loop-line.line in
    let there : line < length db.actions = rw c.actions-actions.ensures.value at c.loop-line-test.true in
    c.loop-line.invariant ∙ groups_for-skip db c.args.verb line (action_at db line) there refl (sym (rw c.actions-actions.ensures.value at c.is_head_of.ensures) ∙ c.if-is_head_of.false)

pub returns : goal.returns
returns c =
    c.loop-line.invariant ∙ groups_for-end c.args.db.now c.args.verb c.loop-line.line (rw c.actions-actions.ensures.value at c.loop-line-test.false)
