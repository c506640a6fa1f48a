use Rattle.std.proofs.Common.{}
use Rattle.inform_grammar.specs.ConditionRules.{value_after}
use Rattle.inform_parser.proofs.InTurn.{stops, follows}
use Rattle.inform_parser.proofs.cursor.Cursor.value_after.Goals as goal

pub returns-in_err-product : goal.returns-in_err-product
unfolding value_after
returns-in_err-product c = stops _ c.from_residual.result c.from_residual.ensures.1 c.in_err-product.ensures

pub returns : goal.returns
unfolding value_after
returns c = follows _ c.in_ok-product.ensures c.terms_after.ensures
