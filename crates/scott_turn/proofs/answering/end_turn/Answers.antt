use Rattle.std.proofs.Common.{refl}
use Rattle.std.proofs.lemmas.Result.{err_from_is_err_and}
use Rattle.adv_io.proofs.Along.{as_ok, as_err}
use Rattle.scott_rules.specs.Light.{light_counted}
use Rattle.scott_turn.proofs.Showing.{shown_said}
use Rattle.scott_turn.proofs.answering.end_turn.Goals as goal

pub returns-in_ok-count_light-in-None : goal.returns-in_ok-count_light-in-None
returns-in_ok-count_light-in-None g c =
    let light = light_counted c.args.game.now.style c.args.state.now in
    record {
      does = record {
        spoken = rw (c.in-None.is, shown_said light.events) (as_ok _ (rw c.style.ensures at c.in_ok-count_light-in-None.ensures.spoken));
        left = rw (c.in-None.is, c.count_light.ensures.state, c.style.ensures) refl;
      };
      fits = rw c.db.ensures at c.count_light.ensures.fits;
    }

pub returns-in_err-count_light-in-None-clause-does : goal.returns-in_err-count_light-in-None-clause-does
returns-in_err-count_light-in-None-clause-does g c =
    let light = light_counted c.args.game.now.style c.args.state.now in
    let p = err_from_is_err_and c.from_residual.result c.from_residual.ensures.1 in
    rw (p.1, c.in-None.is) (record {
      spoken = rw (shown_said light.events) (as_err p.0 (rw c.style.ensures at c.in_err-count_light-in-None.ensures.spoken));
      left = tt;
    })
