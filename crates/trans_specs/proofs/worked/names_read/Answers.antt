use Rattle.std.proofs.Common.{refl}
use Rattle.std.specs.Fmt.{digits}
use Rattle.trans_specs.proofs.worked.names_read.Goals as goal

pub returns : goal.returns
unfolding digits
returns c = record { of_line = refl; with_zero = refl; no_digits = refl; other = refl }
