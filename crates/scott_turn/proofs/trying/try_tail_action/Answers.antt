use Rattle.std.proofs.Common.{ap}
use Rattle.std.proofs.lemmas.Result.{err_from_is_err_and}
use Rattle.scott_rules.specs.Groups.{outcome_of}
use Rattle.adv_io.proofs.Along.{as_ok, as_err}
use Rattle.scott_turn.proofs.trying.try_tail_action.Goals as goal

pub returns : goal.returns
returns g c = record {
  does = record {
    spoken = as_ok _ c.in_ok-ran.ensures.does.spoken;
    tried = c.in_ok-ran.ensures.does.tried;
    left = rw c.over_of.ensures (ap outcome_of c.in_ok-ran.ensures.does.left);
  };
  fits = c.try_action.ensures.fits;
}

pub returns-in_err-ran : goal.returns-in_err-ran
returns-in_err-ran g c =
    let p = err_from_is_err_and c.from_residual.result c.from_residual.ensures.1 in
    record {
      does = rw (p.1) (record { spoken = as_err p.0 c.in_err-ran.ensures.does.spoken; tried = tt; left = tt });
      fits = c.try_action.ensures.fits;
    }
