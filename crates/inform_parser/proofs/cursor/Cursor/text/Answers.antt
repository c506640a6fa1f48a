use Rattle.std.proofs.Common.{refl}
use Rattle.inform_lexemes.specs.Lexemes.{Quoted, is_quoted}
use Rattle.inform_parser.proofs.Passing.{stands_there, stands_read}
use Rattle.inform_parser.proofs.cursor.Cursor.text.Goals as goal

pub skip-requires : goal.skip-requires
skip-requires c = stands_there Quoted c.args.self.now c.args.self.now c.in-Some.text (rw c.in-Some.is at c.in_ok-text.ensures)

pub returns : goal.returns
returns c =
    stands_read Quoted c.args.self.now c.skip.new.self c.in-Some.text (rw c.in-Some.is at c.in_ok-text.ensures) is_quoted refl refl refl c.skip.ensures
