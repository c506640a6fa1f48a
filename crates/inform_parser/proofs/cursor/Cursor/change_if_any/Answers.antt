use Rattle.std.proofs.Common.{◌∙◌, sym, refl}
use Rattle.inform_parser.proofs.StatementSteps.{some_change, no_change}
use Rattle.inform_parser.proofs.InTurn.{only, made, same, known, stops, follows}
use Rattle.inform_parser.proofs.cursor.Cursor.change_if_any.Goals as goal

pub returns-in_err-name : goal.returns-in_err-name
returns-in_err-name c = same _ (some_change _ (sym c.at_name.ensures ∙ c.if-not-at_name.false)) (stops _ c.from_residual.result c.from_residual.ensures.1 (only c.in_err-name.ensures))

pub returns-in_err-change : goal.returns-in_err-change
returns-in_err-change c = same _ (some_change _ (sym c.at_name.ensures ∙ c.if-not-at_name.false)) (follows _ (only c.in_ok-name.ensures) (stops _ c.from_residual-in_err-change.result c.from_residual-in_err-change.ensures.1 (only c.in_err-change.ensures)))

pub returns : goal.returns
returns c = same _ (some_change _ (sym c.at_name.ensures ∙ c.if-not-at_name.false)) (follows _ (only c.in_ok-name.ensures) (follows _ (only c.in_ok-change.ensures) (made _ refl)))

pub returns-then-not-at_name : goal.returns-then-not-at_name
returns-then-not-at_name c = known (no_change _ (sym c.at_name.ensures ∙ c.if-not-at_name.true)) refl
