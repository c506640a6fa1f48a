use Rattle.std.proofs.Common.{◌∙◌, sym, refl}
use Rattle.inform_parser.proofs.BodySteps.{part_after_said, part_after_head}
use Rattle.inform_parser.proofs.InTurn.{only, made, same_some, stops_some, follows_some}
use Rattle.inform_parser.proofs.cursor.Cursor.part_after.Goals as goal

pub returns-in_err-statement : goal.returns-in_err-statement
returns-in_err-statement c = same_some _ (part_after_said _ _ (sym c.at_choice.ensures ∙ c.if-at_choice.false)) (stops_some _ c.from_residual.result c.from_residual.ensures.1 (only c.in_err-statement.ensures))

pub returns : goal.returns
returns c = same_some _ (part_after_said _ _ (sym c.at_choice.ensures ∙ c.if-at_choice.false)) (follows_some _ c.in_ok-statement.ensures (made _ (refl)))

pub returns-then-at_choice : goal.returns-then-at_choice
returns-then-at_choice c = same_some _ (part_after_head _ _ (sym c.at_choice.ensures ∙ c.if-at_choice.true)) c.head_after.ensures
