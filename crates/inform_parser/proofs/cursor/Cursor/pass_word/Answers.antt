use Rattle.inform_parser.proofs.Passing.{word_passes}
use Rattle.inform_parser.proofs.cursor.Cursor.pass_word.Goals as goal

pub returns : goal.returns
returns c = word_passes c.args.self.now _ c.args.keyword c.requires.next c.requires.opens c.skip.ensures
