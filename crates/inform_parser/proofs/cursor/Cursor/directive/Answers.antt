use Rattle.std.proofs.Common.{◌∙◌, sym}
use Rattle.inform_parser.proofs.DirectiveSteps.{directive_as}
use Rattle.inform_parser.proofs.InTurn.{only, same_some, ended, stops_some, follows_some, passed, other_some}
use Rattle.inform_parser.proofs.cursor.Cursor.directive.Goals as goal

pub returns-then-at_word : goal.returns-then-at_word
returns-then-at_word c = same_some _ (directive_as _) (passed _ _ (sym c.at_word.ensures ∙ c.if-at_word.true) c.pass_word.ensures (ended (only c.constant_after.ensures)))

pub returns-then-at_word-2 : goal.returns-then-at_word-2
returns-then-at_word-2 c = same_some _ (directive_as _) (other_some _ _ (sym c.at_word.ensures ∙ c.if-at_word.false) (passed _ _ (sym c.at_word-2.ensures ∙ c.if-at_word-2.true) c.pass_word-then-at_word-2.ensures (ended (only c.global_after.ensures))))

pub returns-then-at_word-3 : goal.returns-then-at_word-3
returns-then-at_word-3 c = same_some _ (directive_as _) (other_some _ _ (sym c.at_word.ensures ∙ c.if-at_word.false) (other_some _ _ (sym c.at_word-2.ensures ∙ c.if-at_word-2.false) (passed _ _ (sym c.at_word-3.ensures ∙ c.if-at_word-3.true) c.pass_word-then-at_word-3.ensures (ended (only c.array_after.ensures)))))

pub returns-in_err-expect : goal.returns-in_err-expect
returns-in_err-expect c = same_some _ (directive_as _) (other_some _ _ (sym c.at_word.ensures ∙ c.if-at_word.false) (other_some _ _ (sym c.at_word-2.ensures ∙ c.if-at_word-2.false) (other_some _ _ (sym c.at_word-3.ensures ∙ c.if-at_word-3.false) (stops_some _ c.from_residual.result c.from_residual.ensures.1 (only c.in_err-expect.ensures)))))

pub returns : goal.returns
returns c = same_some _ (directive_as _) (other_some _ _ (sym c.at_word.ensures ∙ c.if-at_word.false) (other_some _ _ (sym c.at_word-2.ensures ∙ c.if-at_word-2.false) (other_some _ _ (sym c.at_word-3.ensures ∙ c.if-at_word-3.false) (follows_some _ c.in_ok-expect.ensures (ended (only c.routine_after.ensures))))))
