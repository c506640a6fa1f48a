use Rattle.std.proofs.Common.{}
use Rattle.inform_grammar.specs.Rule.{constant_after}
use Rattle.inform_parser.proofs.InTurn.{only, stops, stops_some, follows, follows_some}
use Rattle.inform_parser.proofs.cursor.Cursor.constant_after.Goals as goal

pub returns-in_err-name : goal.returns-in_err-name
unfolding constant_after
returns-in_err-name c = stops_some _ c.from_residual.result c.from_residual.ensures.1 (only c.in_err-name.ensures)

pub returns-in_err-expect : goal.returns-in_err-expect
unfolding constant_after
returns-in_err-expect c = follows_some _ c.in_ok-name.ensures (stops _ c.from_residual-in_err-expect.result c.from_residual-in_err-expect.ensures.1 (only c.in_err-expect.ensures))

pub returns-in_err-value : goal.returns-in_err-value
unfolding constant_after
returns-in_err-value c = follows_some _ c.in_ok-name.ensures (follows _ (only c.in_ok-expect.ensures) (stops _ c.from_residual-in_err-value.result c.from_residual-in_err-value.ensures.1 (only c.in_err-value.ensures)))

pub returns : goal.returns
unfolding constant_after
returns c = follows_some _ c.in_ok-name.ensures (follows _ (only c.in_ok-expect.ensures) (follows _ (only c.in_ok-value.ensures) (only c.directive_to.ensures)))
