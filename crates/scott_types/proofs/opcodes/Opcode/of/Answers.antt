use Rattle.std.proofs.Common.{sym, arith}
use Rattle.scott_types.proofs.Tables.{opcode_of-unused}
use Rattle.scott_types.proofs.opcodes.Opcode.of.Goals as goal

pub returns-in-0-2 : goal.returns-in-0-2
returns-in-0-2 c = sym (opcode_of-unused c.args.number (omega arith) (omega arith))
