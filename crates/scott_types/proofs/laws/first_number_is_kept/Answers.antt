use Rattle.scott_types.proofs.Tables.{number_of-opcode_of}
use Rattle.scott_types.proofs.laws.first_number_is_kept.Goals as goal

pub returns : goal.returns
returns c = number_of-opcode_of
