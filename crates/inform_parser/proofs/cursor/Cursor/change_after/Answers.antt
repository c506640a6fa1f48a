use Rattle.std.proofs.Common.{◌∙◌, sym, refl}
use Rattle.inform_parser.proofs.StatementSteps.{set_as, set_entry_as, by_one_as}
use Rattle.inform_parser.proofs.InTurn.{only, made, same_some, stops, stops_some, follows, follows_some, passed, other_some}
use Rattle.inform_parser.proofs.cursor.Cursor.change_after.Goals as goal

pub returns-in_err-value : goal.returns-in_err-value
returns-in_err-value c = same_some _ (set_as _ _ (sym c.at.ensures ∙ c.if-at.true)) (passed _ _ (sym c.at.ensures ∙ c.if-at.true) c.pass.ensures (stops _ c.from_residual.result c.from_residual.ensures.1 (only c.in_err-value.ensures)))

pub returns-then-at : goal.returns-then-at
returns-then-at c = same_some _ (set_as _ _ (sym c.at.ensures ∙ c.if-at.true)) (passed _ _ (sym c.at.ensures ∙ c.if-at.true) c.pass.ensures (follows _ (only c.in_ok-value.ensures) (made _ refl)))

pub returns-in_err-words : goal.returns-in_err-words
returns-in_err-words c = same_some _ (set_entry_as _ _ (sym c.at_arrow.ensures ∙ c.if-at_arrow.true)) (stops_some _ c.from_residual-in_err-words.result c.from_residual-in_err-words.ensures.1 (only c.in_err-words.ensures))

pub returns-in_err-index : goal.returns-in_err-index
returns-in_err-index c = same_some _ (set_entry_as _ _ (sym c.at_arrow.ensures ∙ c.if-at_arrow.true)) (follows_some _ c.in_ok-words.ensures (stops _ c.from_residual-in_err-index.result c.from_residual-in_err-index.ensures.1 (only c.in_err-index.ensures)))

pub returns-in_err-expect : goal.returns-in_err-expect
returns-in_err-expect c = same_some _ (set_entry_as _ _ (sym c.at_arrow.ensures ∙ c.if-at_arrow.true)) (follows_some _ c.in_ok-words.ensures (follows _ (only c.in_ok-index.ensures) (stops _ c.from_residual-in_err-expect.result c.from_residual-in_err-expect.ensures.1 (only c.in_err-expect.ensures))))

pub returns-in_err-value-2 : goal.returns-in_err-value-2
returns-in_err-value-2 c = same_some _ (set_entry_as _ _ (sym c.at_arrow.ensures ∙ c.if-at_arrow.true)) (follows_some _ c.in_ok-words.ensures (follows _ (only c.in_ok-index.ensures) (follows _ (only c.in_ok-expect.ensures) (stops _ c.from_residual-in_err-value-2.result c.from_residual-in_err-value-2.ensures.1 (only c.in_err-value-2.ensures)))))

pub returns-then-at_arrow : goal.returns-then-at_arrow
returns-then-at_arrow c = same_some _ (set_entry_as _ _ (sym c.at_arrow.ensures ∙ c.if-at_arrow.true)) (follows_some _ c.in_ok-words.ensures (follows _ (only c.in_ok-index.ensures) (follows _ (only c.in_ok-expect.ensures) (follows _ (only c.in_ok-value-2.ensures) (made _ refl)))))

pub returns-then-at-2 : goal.returns-then-at-2
returns-then-at-2 c = same_some _ (by_one_as _ _ (sym c.at.ensures ∙ c.if-at.false) (sym c.at_arrow.ensures ∙ c.if-at_arrow.false)) (passed _ _ (sym c.at-2.ensures ∙ c.if-at-2.true) c.pass-then-at-2.ensures (made _ refl))

pub returns-in_err-expect-2 : goal.returns-in_err-expect-2
returns-in_err-expect-2 c = same_some _ (by_one_as _ _ (sym c.at.ensures ∙ c.if-at.false) (sym c.at_arrow.ensures ∙ c.if-at_arrow.false)) (other_some _ _ (sym c.at-2.ensures ∙ c.if-at-2.false) (stops_some _ c.from_residual-in_err-expect-2.result c.from_residual-in_err-expect-2.ensures.1 (only c.in_err-expect-2.ensures)))

pub returns : goal.returns
returns c = same_some _ (by_one_as _ _ (sym c.at.ensures ∙ c.if-at.false) (sym c.at_arrow.ensures ∙ c.if-at_arrow.false)) (other_some _ _ (sym c.at-2.ensures ∙ c.if-at-2.false) (follows_some _ c.in_ok-expect-2.ensures (made _ refl)))
