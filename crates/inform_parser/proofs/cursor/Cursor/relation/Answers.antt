use Rattle.inform_parser.specs.Nexts.{relation_lexeme}
use Rattle.inform_parser.proofs.Passing.{stands_there}
use Rattle.inform_parser.proofs.SeenKinds.{relation_read}
use Rattle.inform_parser.proofs.cursor.Cursor.relation.Goals as goal

pub skip-requires : goal.skip-requires
skip-requires c = stands_there relation_lexeme c.args.self.now c.args.self.now c.in-Some.relation c.in-Some.ensures

pub returns : goal.returns
returns c = relation_read c.args.self.now c.skip.new.self c.in-Some.relation c.in-Some.ensures c.skip.ensures
