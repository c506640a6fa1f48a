use Rattle.std.proofs.Common.{refl}
use Rattle.std.specs.Fmt.{digits}
use Rattle.trans_specs.proofs.worked.empty_tail.Goals as goal

pub returns : goal.returns
unfolding digits
returns c = refl
