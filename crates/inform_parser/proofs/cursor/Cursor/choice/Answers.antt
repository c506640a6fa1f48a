use Rattle.std.proofs.Common.{}
use Rattle.inform_parser.proofs.ChoiceSteps.{choice_as}
use Rattle.inform_parser.proofs.InTurn.{only, same_some, ended, stops_some, follows_some}
use Rattle.inform_parser.proofs.cursor.Cursor.choice.Goals as goal

pub returns-in_err-first : goal.returns-in_err-first
returns-in_err-first c = same_some _ (choice_as _) (stops_some _ c.from_residual.result c.from_residual.ensures.1 (only c.in_err-first.ensures))

pub returns : goal.returns
returns c = same_some _ (choice_as _) (follows_some _ c.in_ok-first.ensures (ended c.range_after.ensures))
