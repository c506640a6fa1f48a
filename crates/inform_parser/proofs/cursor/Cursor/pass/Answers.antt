use Rattle.inform_parser.proofs.Passing.{sign_passes}
use Rattle.inform_parser.proofs.cursor.Cursor.pass.Goals as goal

pub returns : goal.returns
returns c = sign_passes c.args.self.now _ c.args.symbol c.requires.next c.requires.opens c.requires.closes c.skip.ensures
