-- A fault of what is meant first stands for the whole.
use Rattle.std.proofs.Common.{Result, ap, ◌∙◌}
use Rattle.adv_compiler.specs.declared.faults.CompileFault.{CompileFault}
use Rattle.adv_compiler.specs.declared.faults.CompileFault.TheVariants as answer
use Rattle.adv_compiler.specs.Faults.{Fault, ◌>>=◌, Stands}

pub stands_then : {X Y : Type 0} (f : X → Result Y Fault) (fault : CompileFault) (r : Result X Fault) → Stands fault r → Stands fault (r >>= f)
stands_then f (answer.Unnamed at) r e = ap (λ r. r >>= f) e
stands_then f (answer.Twice at) r e = ap (λ r. r >>= f) e
stands_then f (answer.TooManyConditions at) r e = ap (λ r. r >>= f) e
stands_then f (answer.TooManyOpcodes at) r e = ap (λ r. r >>= f) e
stands_then f (answer.Limit at value) r e = ap (λ r. r >>= f) e
stands_then f answer.Memory r e = tt
