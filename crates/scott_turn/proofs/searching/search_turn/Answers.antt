use Rattle.std.proofs.Common.{◌≡◌, ◌∙◌, true, false, refl, sym}
use Rattle.std.proofs.lemmas.Result.{err_from_is_err_and}
use Rattle.adv_io.proofs.Along.{as_ok, as_err}
use Rattle.adv_io.proofs.Sayings.{nothing_said}
use Rattle.scott_types.specs.Action.{noun_of}
use Rattle.scott_types.specs.Database.{action_at}
use Rattle.scott_rules.specs.Search.{is_for_noun}
use Rattle.scott_turn.proofs.searching.search_turn.Goals as goal

pub returns-in_ok-ran : goal.returns-in_ok-ran
returns-in_ok-ran g c =
    let meant : is_for_noun (noun_of (action_at c.args.game.now.db c.args.head).vocab) c.args.noun ≡ true = sym (rw c.db.ensures at c.is_meant.ensures) ∙ c.if-is_meant.true in
    record {
      does = record {
        spoken = rw meant (as_ok _ c.in_ok-ran.ensures.does.spoken);
        tried = rw meant c.in_ok-ran.ensures.does.tried;
        left = rw (meant, c.in_ok-ran.ensures.does.left, c.found_of.ensures) refl;
      };
      fits = c.try_group.ensures.fits;
    }

pub returns-in_err-ran : goal.returns-in_err-ran
returns-in_err-ran g c =
    let meant : is_for_noun (noun_of (action_at c.args.game.now.db c.args.head).vocab) c.args.noun ≡ true = sym (rw c.db.ensures at c.is_meant.ensures) ∙ c.if-is_meant.true in
    let p = err_from_is_err_and c.from_residual.result c.from_residual.ensures.1 in
    record {
      does = record {
        spoken = rw (p.1, meant) (as_err p.0 c.in_err-ran.ensures.does.spoken);
        tried = rw (p.1) tt;
        left = rw (p.1) tt;
      };
      fits = c.try_group.ensures.fits;
    }

pub returns-else-is_meant : goal.returns-else-is_meant
returns-else-is_meant g c =
    let other : is_for_noun (noun_of (action_at c.args.game.now.db c.args.head).vocab) c.args.noun ≡ false = sym (rw c.db.ensures at c.is_meant.ensures) ∙ c.if-is_meant.false in
    record {
      does = rw other (record { spoken = nothing_said _ _; tried = refl; left = refl });
      fits = c.requires.fits;
    }
