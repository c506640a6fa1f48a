use Rattle.std.proofs.Common.{◌∙◌, sym}
use Rattle.inform_parser.proofs.Taking.{sign_read}
use Rattle.inform_parser.proofs.cursor.Cursor.expect.Goals as goal

pub returns : goal.returns
returns c = sign_read _ _ c.advance.result c.args.symbol (sym c.at.ensures ∙ c.if-not-at.false) c.advance.ensures
