use Rattle.std.proofs.Common.{refl}
use Rattle.inform_parser.proofs.InTurn.{only, made, stops_some, follows_some}
use Rattle.inform_parser.proofs.cursor.Cursor.directive_to.Goals as goal

pub returns-in_err-expect : goal.returns-in_err-expect
returns-in_err-expect c = stops_some _ c.from_residual.result c.from_residual.ensures.1 (only c.in_err-expect.ensures)

pub returns : goal.returns
returns c = follows_some _ c.in_ok-expect.ensures (made _ refl)
