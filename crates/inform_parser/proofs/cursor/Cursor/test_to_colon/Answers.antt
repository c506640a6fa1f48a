use Rattle.std.proofs.Common.{◌∙◌, sym, refl}
use Rattle.inform_parser.proofs.BodySteps.{test_to_colon_as}
use Rattle.inform_parser.proofs.InTurn.{only, made, same_some, stops, stops_some, follows, follows_some, passed, other_some}
use Rattle.inform_parser.proofs.cursor.Cursor.test_to_colon.Goals as goal

pub returns-in_err-guard : goal.returns-in_err-guard
returns-in_err-guard c = same_some _ (test_to_colon_as _) (other_some _ _ (sym c.at.ensures ∙ c.if-at.false) (stops_some _ c.from_residual.result c.from_residual.ensures.1 (only c.in_err-guard.ensures)))

pub returns-in_err-expect : goal.returns-in_err-expect
returns-in_err-expect c = same_some _ (test_to_colon_as _) (other_some _ _ (sym c.at.ensures ∙ c.if-at.false) (follows_some _ c.in_ok-guard.ensures (stops _ c.from_residual-in_err-expect.result c.from_residual-in_err-expect.ensures.1 (only c.in_err-expect.ensures))))

pub returns : goal.returns
returns c = same_some _ (test_to_colon_as _) (other_some _ _ (sym c.at.ensures ∙ c.if-at.false) (follows_some _ c.in_ok-guard.ensures (follows _ (only c.in_ok-expect.ensures) (made _ (refl)))))

pub returns-then-at : goal.returns-then-at
returns-then-at c = same_some _ (test_to_colon_as _) (passed _ _ (sym c.at.ensures ∙ c.if-at.true) c.pass.ensures (made _ refl))
