use Rattle.std.proofs.Common.{◌∙◌, sym, refl}
use Rattle.inform_parser.proofs.StatementSteps.{item_as, item_inside_as}
use Rattle.inform_parser.proofs.InTurn.{only, made, same_some, ended, stops, stops_some, follows, follows_some, passed, there, other_some}
use Rattle.inform_parser.proofs.cursor.Cursor.item.Goals as goal

pub returns-in_err-text : goal.returns-in_err-text
returns-in_err-text c = same_some _ (item_as _) (there _ _ (sym c.at_text.ensures ∙ c.if-at_text.true) (stops_some _ c.from_residual.result c.from_residual.ensures.1 (only c.in_err-text.ensures)))

pub returns-then-at_text : goal.returns-then-at_text
returns-then-at_text c = same_some _ (item_as _) (there _ _ (sym c.at_text.ensures ∙ c.if-at_text.true) (follows_some _ c.in_ok-text.ensures (made _ refl)))

pub returns-in_err-expect : goal.returns-in_err-expect
returns-in_err-expect c = same_some _ (item_as _) (other_some _ _ (sym c.at_text.ensures ∙ c.if-at_text.false) (there _ _ (sym c.at.ensures ∙ c.if-at.true) (stops_some _ c.from_residual-in_err-expect.result c.from_residual-in_err-expect.ensures.1 (only c.in_err-expect.ensures))))

pub returns-in_err-expect-2 : goal.returns-in_err-expect-2
returns-in_err-expect-2 c = same_some _ (item_as _) (other_some _ _ (sym c.at_text.ensures ∙ c.if-at_text.false) (there _ _ (sym c.at.ensures ∙ c.if-at.true) (follows_some _ c.in_ok-expect.ensures (ended (only (same_some _ (item_inside_as _) (passed _ _ (sym c.at_word.ensures ∙ c.if-at_word.true) c.pass_word.ensures (stops _ c.from_residual-in_err-expect-2.result c.from_residual-in_err-expect-2.ensures.1 (only c.in_err-expect-2.ensures)))))))))

pub returns-in_err-code : goal.returns-in_err-code
returns-in_err-code c = same_some _ (item_as _) (other_some _ _ (sym c.at_text.ensures ∙ c.if-at_text.false) (there _ _ (sym c.at.ensures ∙ c.if-at.true) (follows_some _ c.in_ok-expect.ensures (ended (only (same_some _ (item_inside_as _) (passed _ _ (sym c.at_word.ensures ∙ c.if-at_word.true) c.pass_word.ensures (follows _ (only c.in_ok-expect-2.ensures) (stops _ c.from_residual-in_err-code.result c.from_residual-in_err-code.ensures.1 (only c.in_err-code.ensures))))))))))

pub returns-then-at_word : goal.returns-then-at_word
returns-then-at_word c = same_some _ (item_as _) (other_some _ _ (sym c.at_text.ensures ∙ c.if-at_text.false) (there _ _ (sym c.at.ensures ∙ c.if-at.true) (follows_some _ c.in_ok-expect.ensures (ended (only (same_some _ (item_inside_as _) (passed _ _ (sym c.at_word.ensures ∙ c.if-at_word.true) c.pass_word.ensures (follows _ (only c.in_ok-expect-2.ensures) (follows _ (only c.in_ok-code.ensures) (made _ refl))))))))))

pub returns-in_err-first : goal.returns-in_err-first
returns-in_err-first c = same_some _ (item_as _) (other_some _ _ (sym c.at_text.ensures ∙ c.if-at_text.false) (there _ _ (sym c.at.ensures ∙ c.if-at.true) (follows_some _ c.in_ok-expect.ensures (ended (only (same_some _ (item_inside_as _) (other_some _ _ (sym c.at_word.ensures ∙ c.if-at_word.false) (stops_some _ c.from_residual-in_err-first.result c.from_residual-in_err-first.ensures.1 (only c.in_err-first.ensures)))))))))

pub returns-in_err-expect-3 : goal.returns-in_err-expect-3
returns-in_err-expect-3 c = same_some _ (item_as _) (other_some _ _ (sym c.at_text.ensures ∙ c.if-at_text.false) (there _ _ (sym c.at.ensures ∙ c.if-at.true) (follows_some _ c.in_ok-expect.ensures (ended (only (same_some _ (item_inside_as _) (other_some _ _ (sym c.at_word.ensures ∙ c.if-at_word.false) (follows_some _ c.in_ok-first.ensures (stops _ c.from_residual-in_err-expect-3.result c.from_residual-in_err-expect-3.ensures.1 (only c.in_err-expect-3.ensures))))))))))

pub returns-in_err-whole : goal.returns-in_err-whole
returns-in_err-whole c = same_some _ (item_as _) (other_some _ _ (sym c.at_text.ensures ∙ c.if-at_text.false) (there _ _ (sym c.at.ensures ∙ c.if-at.true) (follows_some _ c.in_ok-expect.ensures (ended (only (same_some _ (item_inside_as _) (other_some _ _ (sym c.at_word.ensures ∙ c.if-at_word.false) (follows_some _ c.in_ok-first.ensures (follows _ (only c.in_ok-expect-3.ensures) (stops _ c.from_residual-in_err-whole.result c.from_residual-in_err-whole.ensures.1 c.in_err-whole.ensures))))))))))

pub returns-then-at : goal.returns-then-at
returns-then-at c = same_some _ (item_as _) (other_some _ _ (sym c.at_text.ensures ∙ c.if-at_text.false) (there _ _ (sym c.at.ensures ∙ c.if-at.true) (follows_some _ c.in_ok-expect.ensures (ended (only (same_some _ (item_inside_as _) (other_some _ _ (sym c.at_word.ensures ∙ c.if-at_word.false) (follows_some _ c.in_ok-first.ensures (follows _ (only c.in_ok-expect-3.ensures) (follows _ c.in_ok-whole.ensures (made _ refl)))))))))))

pub returns-in_err-value : goal.returns-in_err-value
returns-in_err-value c = same_some _ (item_as _) (other_some _ _ (sym c.at_text.ensures ∙ c.if-at_text.false) (other_some _ _ (sym c.at.ensures ∙ c.if-at.false) (stops_some _ c.from_residual-in_err-value.result c.from_residual-in_err-value.ensures.1 (only c.in_err-value.ensures))))

pub returns : goal.returns
returns c = same_some _ (item_as _) (other_some _ _ (sym c.at_text.ensures ∙ c.if-at_text.false) (other_some _ _ (sym c.at.ensures ∙ c.if-at.false) (follows_some _ c.in_ok-value.ensures (made _ refl))))
