use Rattle.std.proofs.Common.{◌∙◌, sym}
use Rattle.inform_grammar.specs.StatementRules.{statement_after}
use Rattle.inform_parser.proofs.TreesMade.{statement_of_call, statement_of_change}
use Rattle.inform_parser.proofs.InTurn.{only, told, stops, stops_some, follows, follows_some, there, other_some}
use Rattle.inform_parser.proofs.cursor.Cursor.statement_after.Goals as goal

pub returns-in_err-expect : goal.returns-in_err-expect
unfolding statement_after
returns-in_err-expect c = there _ _ (sym c.at.ensures ∙ c.if-at.true) (stops_some _ c.from_residual.result c.from_residual.ensures.1 (only c.in_err-expect.ensures))

pub returns-in_err-arguments : goal.returns-in_err-arguments
unfolding statement_after
returns-in_err-arguments c = there _ _ (sym c.at.ensures ∙ c.if-at.true) (follows_some _ c.in_ok-expect.ensures (stops _ c.from_residual-in_err-arguments.result c.from_residual-in_err-arguments.ensures.1 (only c.in_err-arguments.ensures)))

pub returns-then-at : goal.returns-then-at
unfolding statement_after
returns-then-at c = there _ _ (sym c.at.ensures ∙ c.if-at.true) (follows_some _ c.in_ok-expect.ensures (follows _ (only c.in_ok-arguments.ensures) (told (statement_of_call _ _) (only c.statement_to.ensures))))

pub returns-in_err-change : goal.returns-in_err-change
unfolding statement_after
returns-in_err-change c = other_some _ _ (sym c.at.ensures ∙ c.if-at.false) (stops_some _ c.from_residual-in_err-change.result c.from_residual-in_err-change.ensures.1 (only c.in_err-change.ensures))

pub returns : goal.returns
unfolding statement_after
returns c = other_some _ _ (sym c.at.ensures ∙ c.if-at.false) (follows_some _ c.in_ok-change.ensures (told (statement_of_change _) (only c.statement_to-2.ensures)))
