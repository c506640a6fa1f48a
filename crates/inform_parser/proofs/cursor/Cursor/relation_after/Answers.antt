use Rattle.std.proofs.Common.{◌∙◌, sym, ap, refl}
use Rattle.inform_grammar.specs.Trees.{Tested}
use Rattle.inform_parser.proofs.TreesMade.{condition_of_compare}
use Rattle.inform_parser.proofs.ConditionSteps.{compared, plain}
use Rattle.inform_parser.proofs.InTurn.{only, made, same, known, stops, follows}
use Rattle.inform_parser.proofs.cursor.Cursor.relation_after.Goals as goal

pub returns-in_err-relation : goal.returns-in_err-relation
returns-in_err-relation c = same _ (compared _ _ (sym c.at_relation.ensures ∙ c.if-at_relation.true)) (stops _ c.from_residual.result c.from_residual.ensures.1 (only c.in_err-relation.ensures))

pub returns-in_err-second : goal.returns-in_err-second
returns-in_err-second c = same _ (compared _ _ (sym c.at_relation.ensures ∙ c.if-at_relation.true)) (follows _ (only c.in_ok-relation.ensures) (stops _ c.from_residual-in_err-second.result c.from_residual-in_err-second.ensures.1 (only c.in_err-second.ensures)))

pub returns-then-at_relation : goal.returns-then-at_relation
returns-then-at_relation c = same _ (compared _ _ (sym c.at_relation.ensures ∙ c.if-at_relation.true)) (follows _ (only c.in_ok-relation.ensures) (follows _ (only c.in_ok-second.ensures) (made _ (ap Tested (condition_of_compare _ _ _)))))

pub returns : goal.returns
returns c = known (plain _ _ (sym c.at_relation.ensures ∙ c.if-at_relation.false)) refl
