use Rattle.std.proofs.Common.{◌≡◌, ◌∙◌, true, false, refl, sym}
use Rattle.std.specs.Prelude.{nat_le}
use Rattle.std.proofs.lemmas.Result.{err_from_is_err_and}
use Rattle.adv_io.proofs.Along.{as_ok, as_err}
use Rattle.adv_io.proofs.Sayings.{nothing_said}
use Rattle.scott_types.specs.Action.{noun_of}
use Rattle.scott_types.specs.Database.{action_at}
use Rattle.scott_turn.proofs.automatic.enter.Goals as goal

pub returns-in_ok-ran : goal.returns-in_ok-ran
returns-in_ok-ran g c =
    let enters : nat_le c.args.draw (noun_of (action_at c.args.game.now.db c.args.head).vocab) ≡ true = sym (rw c.db.ensures at c.lets_in.ensures) ∙ c.if-lets_in.true in
    record {
      does = record {
        spoken = rw enters (as_ok _ c.in_ok-ran.ensures.does.spoken);
        tried = rw enters c.in_ok-ran.ensures.does.tried;
        left = rw (enters, c.in_ok-ran.ensures.does.left, c.halt_of.ensures) refl;
      };
      fits = c.try_group.ensures.fits;
    }

pub returns-in_err-ran : goal.returns-in_err-ran
returns-in_err-ran g c =
    let enters : nat_le c.args.draw (noun_of (action_at c.args.game.now.db c.args.head).vocab) ≡ true = sym (rw c.db.ensures at c.lets_in.ensures) ∙ c.if-lets_in.true in
    let p = err_from_is_err_and c.from_residual.result c.from_residual.ensures.1 in
    record {
      does = record {
        spoken = rw (p.1, enters) (as_err p.0 c.in_err-ran.ensures.does.spoken);
        tried = rw (p.1) tt;
        left = rw (p.1) tt;
      };
      fits = c.try_group.ensures.fits;
    }

pub returns-else-lets_in : goal.returns-else-lets_in
returns-else-lets_in g c =
    let out : nat_le c.args.draw (noun_of (action_at c.args.game.now.db c.args.head).vocab) ≡ false = sym (rw c.db.ensures at c.lets_in.ensures) ∙ c.if-lets_in.false in
    record {
      does = rw out (record { spoken = nothing_said _ _; tried = refl; left = refl });
      fits = c.requires.fits;
    }
