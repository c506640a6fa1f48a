-- What is computed of the worked routines.
use Rattle.std.proofs.Common.{refl}
use Rattle.inform_codes.specs.Grown.{body_of}
use Rattle.inform_codes.specs.Worked.{RoutinesFormed}

pub routines_formed : RoutinesFormed
unfolding body_of
routines_formed highest small = rw small refl
