use Rattle.std.proofs.Common.{refl}
use Rattle.inform_lexemes.specs.Lexemes.{Name, is_name}
use Rattle.inform_parser.proofs.Passing.{stands_there, stands_read}
use Rattle.inform_parser.proofs.cursor.Cursor.name.Goals as goal

pub skip-requires : goal.skip-requires
skip-requires c = stands_there Name c.args.self.now c.args.self.now c.in-Some.name (rw c.in-Some.is at c.in_ok-name.ensures)

pub returns : goal.returns
returns c =
    stands_read Name c.args.self.now c.skip.new.self c.in-Some.name (rw c.in-Some.is at c.in_ok-name.ensures) is_name refl refl refl c.skip.ensures
