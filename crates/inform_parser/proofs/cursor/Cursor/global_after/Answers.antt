use Rattle.std.proofs.Common.{◌∙◌, sym}
use Rattle.inform_grammar.specs.Rule.{global_after}
use Rattle.inform_parser.proofs.InTurn.{only, stops, stops_some, follows, follows_some, passed, other}
use Rattle.inform_parser.proofs.cursor.Cursor.global_after.Goals as goal

pub returns-in_err-name : goal.returns-in_err-name
unfolding global_after
returns-in_err-name c = stops_some _ c.from_residual.result c.from_residual.ensures.1 (only c.in_err-name.ensures)

pub returns-in_err-value : goal.returns-in_err-value
unfolding global_after
returns-in_err-value c = follows_some _ c.in_ok-name.ensures (only (passed _ _ (sym c.at.ensures ∙ c.if-at.true) c.pass.ensures (stops _ c.from_residual-in_err-value.result c.from_residual-in_err-value.ensures.1 (only c.in_err-value.ensures))))

pub returns-then-at : goal.returns-then-at
unfolding global_after
returns-then-at c = follows_some _ c.in_ok-name.ensures (only (passed _ _ (sym c.at.ensures ∙ c.if-at.true) c.pass.ensures (follows _ (only c.in_ok-value.ensures) (only c.directive_to.ensures))))

pub returns : goal.returns
unfolding global_after
returns c = follows_some _ c.in_ok-name.ensures (other _ _ (sym c.at.ensures ∙ c.if-at.false) (only c.directive_to-2.ensures))
