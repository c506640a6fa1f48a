use Rattle.std.proofs.Common.{refl, arith}
use Rattle.std.proofs.lemmas.Result.{err_from_is_err_and}
use Rattle.adv_text.proofs.quoted.keep.Goals as goal

pub returns-then-bytes-len-clause-long : goal.returns-then-bytes-len-clause-long
returns-then-bytes-len-clause-long c = (refl, omega arith)

pub returns-in_err-extend_from_slice-clause-long : goal.returns-in_err-extend_from_slice-clause-long
returns-in_err-extend_from_slice-clause-long c =
    let p = err_from_is_err_and c.from_residual.result c.from_residual.ensures.1 in rw (p.1, p.2) tt
