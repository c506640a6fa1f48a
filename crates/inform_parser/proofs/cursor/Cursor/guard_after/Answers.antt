use Rattle.std.proofs.Common.{}
use Rattle.inform_parser.specs.Plans.{guard_after}
use Rattle.inform_parser.proofs.InTurn.{only, stops_some, follows_some}
use Rattle.inform_parser.proofs.cursor.Cursor.guard_after.Goals as goal

pub returns-in_err-expect_word : goal.returns-in_err-expect_word
unfolding guard_after
returns-in_err-expect_word c = stops_some _ c.from_residual.result c.from_residual.ensures.1 (only c.in_err-expect_word.ensures)

pub returns : goal.returns
unfolding guard_after
returns c = follows_some _ c.in_ok-expect_word.ensures (only c.guard_in_brackets.ensures)
