use Rattle.std.proofs.Common.{◌∙◌, sym, refl}
use Rattle.inform_parser.proofs.ChoiceSteps.{range_as}
use Rattle.inform_parser.proofs.InTurn.{only, made, same, stops, follows, passed, other}
use Rattle.inform_parser.proofs.cursor.Cursor.range_after.Goals as goal

pub returns-in_err-last : goal.returns-in_err-last
returns-in_err-last c = same _ (range_as _ _) (only (passed _ _ (sym c.at_word.ensures ∙ c.if-at_word.true) c.pass_word.ensures (stops _ c.from_residual.result c.from_residual.ensures.1 (only c.in_err-last.ensures))))

pub returns-then-at_word : goal.returns-then-at_word
returns-then-at_word c = same _ (range_as _ _) (only (passed _ _ (sym c.at_word.ensures ∙ c.if-at_word.true) c.pass_word.ensures (follows _ (only c.in_ok-last.ensures) (made _ (refl)))))

pub returns : goal.returns
returns c = same _ (range_as _ _) (other _ _ (sym c.at_word.ensures ∙ c.if-at_word.false) (made _ refl))
