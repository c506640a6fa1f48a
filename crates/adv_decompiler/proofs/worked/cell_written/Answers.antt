use Rattle.std.proofs.Common.{refl}
use Rattle.std.specs.Fmt.{digits}
use Rattle.adv_decompiler.specs.Plain.{plain}
use Rattle.adv_decompiler.proofs.worked.cell_written.Goals as goal

pub returns : goal.returns
unfolding digits plain
returns c = refl
