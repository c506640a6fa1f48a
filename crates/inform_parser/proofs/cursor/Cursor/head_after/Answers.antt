use Rattle.std.proofs.Common.{refl}
use Rattle.inform_parser.proofs.ChoiceSteps.{head_after_as}
use Rattle.inform_parser.proofs.InTurn.{only, made, same_some, stops_some, follows_some, follows_later}
use Rattle.inform_parser.proofs.cursor.Cursor.head_after.Goals as goal

pub returns-in_err-first : goal.returns-in_err-first
returns-in_err-first c = same_some _ (head_after_as _ _) (stops_some _ c.from_residual.result c.from_residual.ensures.1 c.in_err-first.ensures)

pub returns-in_err-choices : goal.returns-in_err-choices
returns-in_err-choices c = same_some _ (head_after_as _ _) (follows_later _ c.in_ok-first.ensures (stops_some _ c.from_residual-in_err-choices.result c.from_residual-in_err-choices.ensures.1 (only c.in_err-choices.ensures)))

pub returns : goal.returns
returns c = same_some _ (head_after_as _ _) (follows_later _ c.in_ok-first.ensures (follows_some _ c.in_ok-choices.ensures (made _ (refl))))
