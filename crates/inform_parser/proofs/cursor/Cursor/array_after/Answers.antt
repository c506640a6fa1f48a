use Rattle.std.proofs.Common.{}
use Rattle.inform_parser.proofs.DirectiveSteps.{array_after_as}
use Rattle.inform_parser.proofs.InTurn.{only, same_some, stops, stops_some, follows, follows_some}
use Rattle.inform_parser.proofs.cursor.Cursor.array_after.Goals as goal

pub returns-in_err-name : goal.returns-in_err-name
returns-in_err-name c = same_some _ (array_after_as _) (stops_some _ c.from_residual.result c.from_residual.ensures.1 (only c.in_err-name.ensures))

pub returns-in_err-words : goal.returns-in_err-words
returns-in_err-words c = same_some _ (array_after_as _) (follows_some _ c.in_ok-name.ensures (stops _ c.from_residual-in_err-words.result c.from_residual-in_err-words.ensures.1 (only c.in_err-words.ensures)))

pub returns-in_err-first : goal.returns-in_err-first
returns-in_err-first c = same_some _ (array_after_as _) (follows_some _ c.in_ok-name.ensures (follows _ (only c.in_ok-words.ensures) (stops _ c.from_residual-in_err-first.result c.from_residual-in_err-first.ensures.1 (only c.in_err-first.ensures))))

pub returns-in_err-entries : goal.returns-in_err-entries
returns-in_err-entries c = same_some _ (array_after_as _) (follows_some _ c.in_ok-name.ensures (follows _ (only c.in_ok-words.ensures) (follows _ (only c.in_ok-first.ensures) (stops _ c.from_residual-in_err-entries.result c.from_residual-in_err-entries.ensures.1 c.in_err-entries.ensures))))

pub returns : goal.returns
returns c = same_some _ (array_after_as _) (follows_some _ c.in_ok-name.ensures (follows _ (only c.in_ok-words.ensures) (follows _ (only c.in_ok-first.ensures) (follows _ c.in_ok-entries.ensures (only c.directive_to.ensures)))))
