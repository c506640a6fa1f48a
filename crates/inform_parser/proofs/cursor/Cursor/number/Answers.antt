use Rattle.std.proofs.Common.{arith}
use Rattle.inform_parser.proofs.cursor.Cursor.number.Goals as goal

pub returns : goal.returns
returns c = record { gives = c.pass_number.ensures.gives; ahead = omega arith; taken = c.pass_number.ensures.taken }
