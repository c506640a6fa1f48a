use Rattle.std.proofs.Common.{refl}
use Rattle.inform_parser.specs.Plans.{last_change}
use Rattle.inform_parser.proofs.InTurn.{only, made, stops_some, follows_some, follows_later}
use Rattle.inform_parser.proofs.cursor.Cursor.last_change.Goals as goal

pub returns-in_err-last : goal.returns-in_err-last
unfolding last_change
returns-in_err-last c = stops_some _ c.from_residual.result c.from_residual.ensures.1 c.in_err-last.ensures

pub returns-in_err-expect : goal.returns-in_err-expect
unfolding last_change
returns-in_err-expect c = follows_later _ c.in_ok-last.ensures (stops_some _ c.from_residual-in_err-expect.result c.from_residual-in_err-expect.ensures.1 (only c.in_err-expect.ensures))

pub returns : goal.returns
unfolding last_change
returns c = follows_later _ c.in_ok-last.ensures (follows_some _ c.in_ok-expect.ensures (made _ (refl)))
