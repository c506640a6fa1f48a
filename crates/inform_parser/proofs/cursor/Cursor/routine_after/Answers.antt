use Rattle.std.proofs.Common.{}
use Rattle.inform_grammar.specs.Rule.{routine_after}
use Rattle.inform_parser.proofs.InTurn.{only, stops, stops_some, follows, follows_some}
use Rattle.inform_parser.proofs.cursor.Cursor.routine_after.Goals as goal

pub returns-in_err-name : goal.returns-in_err-name
unfolding routine_after
returns-in_err-name c = stops_some _ c.from_residual.result c.from_residual.ensures.1 (only c.in_err-name.ensures)

pub returns-in_err-locals : goal.returns-in_err-locals
unfolding routine_after
returns-in_err-locals c = follows_some _ c.in_ok-name.ensures (stops _ c.from_residual-in_err-locals.result c.from_residual-in_err-locals.ensures.1 c.in_err-locals.ensures)

pub returns-in_err-expect : goal.returns-in_err-expect
unfolding routine_after
returns-in_err-expect c = follows_some _ c.in_ok-name.ensures (follows _ c.in_ok-locals.ensures (stops _ c.from_residual-in_err-expect.result c.from_residual-in_err-expect.ensures.1 (only c.in_err-expect.ensures)))

pub returns-in_err-body : goal.returns-in_err-body
unfolding routine_after
returns-in_err-body c = follows_some _ c.in_ok-name.ensures (follows _ c.in_ok-locals.ensures (follows _ (only c.in_ok-expect.ensures) (stops _ c.from_residual-in_err-body.result c.from_residual-in_err-body.ensures.1 c.in_err-body.ensures)))

pub returns-in_err-expect-2 : goal.returns-in_err-expect-2
unfolding routine_after
returns-in_err-expect-2 c = follows_some _ c.in_ok-name.ensures (follows _ c.in_ok-locals.ensures (follows _ (only c.in_ok-expect.ensures) (follows _ c.in_ok-body.ensures (stops _ c.from_residual-in_err-expect-2.result c.from_residual-in_err-expect-2.ensures.1 (only c.in_err-expect-2.ensures)))))

pub returns : goal.returns
unfolding routine_after
returns c = follows_some _ c.in_ok-name.ensures (follows _ c.in_ok-locals.ensures (follows _ (only c.in_ok-expect.ensures) (follows _ c.in_ok-body.ensures (follows _ (only c.in_ok-expect-2.ensures) (only c.directive_to.ensures)))))
