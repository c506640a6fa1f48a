use Rattle.std.proofs.Common.{}
use Rattle.inform_parser.specs.Plans.{until_test}
use Rattle.inform_parser.proofs.InTurn.{only, stops_some, follows_some}
use Rattle.inform_parser.proofs.cursor.Cursor.until_test.Goals as goal

pub returns-in_err-test : goal.returns-in_err-test
unfolding until_test
returns-in_err-test c = stops_some _ c.from_residual.result c.from_residual.ensures.1 (only c.in_err-test.ensures)

pub returns : goal.returns
unfolding until_test
returns c = follows_some _ c.in_ok-test.ensures (only c.guard_to.ensures)
