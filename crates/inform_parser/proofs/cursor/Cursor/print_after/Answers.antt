use Rattle.std.proofs.Common.{}
use Rattle.inform_grammar.specs.StatementRules.{print_after}
use Rattle.inform_parser.proofs.TreesMade.{statement_of_print}
use Rattle.inform_parser.proofs.InTurn.{only, told, stops, stops_some, follows, follows_some}
use Rattle.inform_parser.proofs.cursor.Cursor.print_after.Goals as goal

pub returns-in_err-first : goal.returns-in_err-first
unfolding print_after
returns-in_err-first c = stops_some _ c.from_residual.result c.from_residual.ensures.1 (only c.in_err-first.ensures)

pub returns-in_err-items : goal.returns-in_err-items
unfolding print_after
returns-in_err-items c = follows_some _ c.in_ok-first.ensures (stops _ c.from_residual-in_err-items.result c.from_residual-in_err-items.ensures.1 c.in_err-items.ensures)

pub returns : goal.returns
unfolding print_after
returns c = follows_some _ c.in_ok-first.ensures (follows _ c.in_ok-items.ensures (told (statement_of_print _) (only c.statement_to.ensures)))
