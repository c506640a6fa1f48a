use Rattle.std.proofs.Common.{refl}
use Rattle.std.specs.Fmt.{digits}
use Rattle.source_reader.specs.Names.{opcode_word}
use Rattle.adv_decompiler.proofs.worked.line_written.Goals as goal

pub returns : goal.returns
unfolding digits opcode_word
returns c = refl
