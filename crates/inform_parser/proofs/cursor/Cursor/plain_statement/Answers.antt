use Rattle.std.proofs.Common.{◌∙◌, sym}
use Rattle.inform_parser.specs.Plans.{plain_statement}
use Rattle.inform_parser.proofs.TreesMade.{statement_of_break, statement_of_continue, statement_of_quit, statement_of_rtrue, statement_of_rfalse, statement_of_newline}
use Rattle.inform_parser.proofs.InTurn.{told_word, there, other_some}
use Rattle.inform_parser.proofs.cursor.Cursor.plain_statement.Goals as goal

pub returns-then-at_word : goal.returns-then-at_word
unfolding plain_statement
returns-then-at_word c = there _ _ (sym c.at_word.ensures ∙ c.if-at_word.true) (told_word statement_of_break c.alone.ensures)

pub returns-then-at_word-2 : goal.returns-then-at_word-2
unfolding plain_statement
returns-then-at_word-2 c = other_some _ _ (sym c.at_word.ensures ∙ c.if-at_word.false) (there _ _ (sym c.at_word-2.ensures ∙ c.if-at_word-2.true) (told_word statement_of_continue c.alone-then-at_word-2.ensures))

pub returns-then-at_word-3 : goal.returns-then-at_word-3
unfolding plain_statement
returns-then-at_word-3 c = other_some _ _ (sym c.at_word.ensures ∙ c.if-at_word.false) (other_some _ _ (sym c.at_word-2.ensures ∙ c.if-at_word-2.false) (there _ _ (sym c.at_word-3.ensures ∙ c.if-at_word-3.true) (told_word statement_of_quit c.alone-then-at_word-3.ensures)))

pub returns-then-at_word-4 : goal.returns-then-at_word-4
unfolding plain_statement
returns-then-at_word-4 c = other_some _ _ (sym c.at_word.ensures ∙ c.if-at_word.false) (other_some _ _ (sym c.at_word-2.ensures ∙ c.if-at_word-2.false) (other_some _ _ (sym c.at_word-3.ensures ∙ c.if-at_word-3.false) (there _ _ (sym c.at_word-4.ensures ∙ c.if-at_word-4.true) (told_word statement_of_rtrue c.alone-then-at_word-4.ensures))))

pub returns-then-at_word-5 : goal.returns-then-at_word-5
unfolding plain_statement
returns-then-at_word-5 c = other_some _ _ (sym c.at_word.ensures ∙ c.if-at_word.false) (other_some _ _ (sym c.at_word-2.ensures ∙ c.if-at_word-2.false) (other_some _ _ (sym c.at_word-3.ensures ∙ c.if-at_word-3.false) (other_some _ _ (sym c.at_word-4.ensures ∙ c.if-at_word-4.false) (there _ _ (sym c.at_word-5.ensures ∙ c.if-at_word-5.true) (told_word statement_of_rfalse c.alone-then-at_word-5.ensures)))))

pub returns : goal.returns
unfolding plain_statement
returns c = other_some _ _ (sym c.at_word.ensures ∙ c.if-at_word.false) (other_some _ _ (sym c.at_word-2.ensures ∙ c.if-at_word-2.false) (other_some _ _ (sym c.at_word-3.ensures ∙ c.if-at_word-3.false) (other_some _ _ (sym c.at_word-4.ensures ∙ c.if-at_word-4.false) (other_some _ _ (sym c.at_word-5.ensures ∙ c.if-at_word-5.false) (told_word statement_of_newline c.alone-2.ensures)))))
