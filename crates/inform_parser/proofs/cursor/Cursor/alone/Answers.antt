use Rattle.std.proofs.Common.{refl}
use Rattle.inform_parser.proofs.InTurn.{only, made, stops, stops_some, follows, follows_some}
use Rattle.inform_parser.proofs.cursor.Cursor.alone.Goals as goal

pub returns-in_err-expect_word : goal.returns-in_err-expect_word
returns-in_err-expect_word c = stops_some _ c.from_residual.result c.from_residual.ensures.1 (only c.in_err-expect_word.ensures)

pub returns-in_err-expect : goal.returns-in_err-expect
returns-in_err-expect c = follows_some _ c.in_ok-expect_word.ensures (stops _ c.from_residual-in_err-expect.result c.from_residual-in_err-expect.ensures.1 (only c.in_err-expect.ensures))

pub returns : goal.returns
returns c = follows_some _ c.in_ok-expect_word.ensures (follows _ (only c.in_ok-expect.ensures) (made _ refl))
