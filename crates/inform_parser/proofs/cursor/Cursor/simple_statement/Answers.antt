use Rattle.std.proofs.Common.{◌∙◌, sym}
use Rattle.inform_grammar.specs.StatementRules.{read_after}
use Rattle.inform_parser.proofs.TreesMade.{statement_of_no_value, statement_of_return, statement_of_read}
use Rattle.inform_parser.proofs.StatementSteps.{simple_as, return_after_as}
use Rattle.inform_parser.proofs.InTurn.{only, made, same_some, told, stops, stops_some, follows, follows_some, passed, other_some}
use Rattle.inform_parser.proofs.cursor.Cursor.simple_statement.Goals as goal

pub returns-then-at_word : goal.returns-then-at_word
returns-then-at_word c = same_some _ (simple_as _) (passed _ _ (sym c.at_word.ensures ∙ c.if-at_word.true) c.pass_word.ensures (only c.print_after.ensures))

pub returns-then-at : goal.returns-then-at
returns-then-at c = same_some _ (simple_as _) (other_some _ _ (sym c.at_word.ensures ∙ c.if-at_word.false) (passed _ _ (sym c.at_word-2.ensures ∙ c.if-at_word-2.true) c.pass_word-then-at_word-2.ensures (only (same_some _ (return_after_as _) (passed _ _ (sym c.at.ensures ∙ c.if-at.true) c.pass.ensures (made _ statement_of_no_value))))))

pub returns-in_err-value : goal.returns-in_err-value
returns-in_err-value c = same_some _ (simple_as _) (other_some _ _ (sym c.at_word.ensures ∙ c.if-at_word.false) (passed _ _ (sym c.at_word-2.ensures ∙ c.if-at_word-2.true) c.pass_word-then-at_word-2.ensures (only (same_some _ (return_after_as _) (other_some _ _ (sym c.at.ensures ∙ c.if-at.false) (stops_some _ c.from_residual.result c.from_residual.ensures.1 (only c.in_err-value.ensures)))))))

pub returns-then-at_word-2 : goal.returns-then-at_word-2
returns-then-at_word-2 c = same_some _ (simple_as _) (other_some _ _ (sym c.at_word.ensures ∙ c.if-at_word.false) (passed _ _ (sym c.at_word-2.ensures ∙ c.if-at_word-2.true) c.pass_word-then-at_word-2.ensures (only (same_some _ (return_after_as _) (other_some _ _ (sym c.at.ensures ∙ c.if-at.false) (follows_some _ c.in_ok-value.ensures (told (statement_of_return _) (only c.statement_to.ensures))))))))

pub returns-in_err-line : goal.returns-in_err-line
unfolding read_after
returns-in_err-line c = same_some _ (simple_as _) (other_some _ _ (sym c.at_word.ensures ∙ c.if-at_word.false) (other_some _ _ (sym c.at_word-2.ensures ∙ c.if-at_word-2.false) (passed _ _ (sym c.at_word-3.ensures ∙ c.if-at_word-3.true) c.pass_word-then-at_word-3.ensures (only (stops_some _ c.from_residual-in_err-line.result c.from_residual-in_err-line.ensures.1 (only c.in_err-line.ensures))))))

pub returns-in_err-words : goal.returns-in_err-words
unfolding read_after
returns-in_err-words c = same_some _ (simple_as _) (other_some _ _ (sym c.at_word.ensures ∙ c.if-at_word.false) (other_some _ _ (sym c.at_word-2.ensures ∙ c.if-at_word-2.false) (passed _ _ (sym c.at_word-3.ensures ∙ c.if-at_word-3.true) c.pass_word-then-at_word-3.ensures (only (follows_some _ c.in_ok-line.ensures (stops _ c.from_residual-in_err-words.result c.from_residual-in_err-words.ensures.1 (only c.in_err-words.ensures)))))))

pub returns-then-at_word-3 : goal.returns-then-at_word-3
unfolding read_after
returns-then-at_word-3 c = same_some _ (simple_as _) (other_some _ _ (sym c.at_word.ensures ∙ c.if-at_word.false) (other_some _ _ (sym c.at_word-2.ensures ∙ c.if-at_word-2.false) (passed _ _ (sym c.at_word-3.ensures ∙ c.if-at_word-3.true) c.pass_word-then-at_word-3.ensures (only (follows_some _ c.in_ok-line.ensures (follows _ (only c.in_ok-words.ensures) (told (statement_of_read _ _) (only c.statement_to-then-at_word-3.ensures))))))))

pub returns : goal.returns
returns c = same_some _ (simple_as _) (other_some _ _ (sym c.at_word.ensures ∙ c.if-at_word.false) (other_some _ _ (sym c.at_word-2.ensures ∙ c.if-at_word-2.false) (other_some _ _ (sym c.at_word-3.ensures ∙ c.if-at_word-3.false) (c.plain_statement.ensures))))
