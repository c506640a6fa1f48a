use Rattle.std.proofs.Common.{refl}
use Rattle.std.specs.Fmt.{digits}
use Rattle.adv_check.proofs.laws.drop_without_a_parameter.Goals as goal

pub returns : goal.returns
unfolding digits
returns c = refl
