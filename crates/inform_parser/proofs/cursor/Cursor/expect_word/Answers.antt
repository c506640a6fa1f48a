use Rattle.std.proofs.Common.{◌∙◌, sym}
use Rattle.inform_parser.proofs.Taking.{word_read}
use Rattle.inform_parser.proofs.cursor.Cursor.expect_word.Goals as goal

pub returns : goal.returns
returns c = word_read _ _ c.advance.result c.args.keyword (sym c.at_word.ensures ∙ c.if-not-at_word.false) c.advance.ensures
