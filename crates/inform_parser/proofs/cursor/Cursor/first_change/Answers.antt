use Rattle.std.proofs.Common.{refl}
use Rattle.inform_parser.specs.Plans.{first_change}
use Rattle.inform_parser.proofs.InTurn.{only, made, stops, stops_some, follows, follows_some}
use Rattle.inform_parser.proofs.cursor.Cursor.first_change.Goals as goal

pub returns-in_err-expect_word : goal.returns-in_err-expect_word
unfolding first_change
returns-in_err-expect_word c = stops_some _ c.from_residual.result c.from_residual.ensures.1 (only c.in_err-expect_word.ensures)

pub returns-in_err-expect : goal.returns-in_err-expect
unfolding first_change
returns-in_err-expect c = follows_some _ c.in_ok-expect_word.ensures (stops _ c.from_residual-in_err-expect.result c.from_residual-in_err-expect.ensures.1 (only c.in_err-expect.ensures))

pub returns-in_err-first : goal.returns-in_err-first
unfolding first_change
returns-in_err-first c = follows_some _ c.in_ok-expect_word.ensures (follows _ (only c.in_ok-expect.ensures) (stops _ c.from_residual-in_err-first.result c.from_residual-in_err-first.ensures.1 c.in_err-first.ensures))

pub returns-in_err-expect-2 : goal.returns-in_err-expect-2
unfolding first_change
returns-in_err-expect-2 c = follows_some _ c.in_ok-expect_word.ensures (follows _ (only c.in_ok-expect.ensures) (follows _ c.in_ok-first.ensures (stops _ c.from_residual-in_err-expect-2.result c.from_residual-in_err-expect-2.ensures.1 (only c.in_err-expect-2.ensures))))

pub returns : goal.returns
unfolding first_change
returns c = follows_some _ c.in_ok-expect_word.ensures (follows _ (only c.in_ok-expect.ensures) (follows _ c.in_ok-first.ensures (follows _ (only c.in_ok-expect-2.ensures) (made _ (refl)))))
