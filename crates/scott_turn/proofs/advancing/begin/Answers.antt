use Rattle.std.proofs.Common.{refl, sym}
use Rattle.std.proofs.lemmas.Result.{err_from_is_err_and}
use Rattle.adv_io.specs.Steps.{said_steps}
use Rattle.scott_rules.specs.Groups.{groups, automatic}
use Rattle.scott_rules.specs.Rounds.{look_due, unmarked, to_prompt}
use Rattle.adv_io.proofs.Along.{steps_then, steps_stop}
use Rattle.scott_turn.proofs.Tallying.{tallied_then, tallied-said}
use Rattle.scott_turn.proofs.advancing.begin.Goals as goal

pub look_if_due-requires : goal.look_if_due-requires
look_if_due-requires g c = c.requires

pub advance_from-requires : goal.advance_from-requires
advance_from-requires g c = c.look_if_due.ensures.fits

pub returns : goal.returns
returns g c =
    let game = c.args.game.now in
    let s = c.args.state.now in
    record {
      does = record {
        spoken = steps_then (said_steps (look_due game s)) (to_prompt game (automatic game (groups game.db) (unmarked s) c.args.draws.now.left)).events c.in_ok-look_if_due.ensures.spoken
            (rw c.look_if_due.ensures.state at c.advance_from.ensures.does.spoken);
        tried = tallied_then c.advance_from.result (said_steps (look_due game s)) (to_prompt game (automatic game (groups game.db) (unmarked s) c.args.draws.now.left)).events c.args.tally.now c.advance_from.new.tally (sym (tallied-said (look_due game s) c.args.tally.now)) (rw c.look_if_due.ensures.state at c.advance_from.ensures.does.tried);
        left = rw c.look_if_due.ensures.state at c.advance_from.ensures.does.left;
      };
      taken = c.advance_from.ensures.taken;
      fits = c.advance_from.ensures.fits;
    }

pub returns-in_err-look_if_due : goal.returns-in_err-look_if_due
returns-in_err-look_if_due g c =
    let game = c.args.game.now in
    let s = c.args.state.now in
    let p = err_from_is_err_and c.from_residual.result c.from_residual.ensures.1 in
    record {
      does = rw (p.1) (record {
        spoken = steps_stop p.0 (said_steps (look_due game s)) (to_prompt game (automatic game (groups game.db) (unmarked s) c.args.draws.now.left)).events c.in_err-look_if_due.ensures.spoken;
        tried = tt;
        left = tt;
      });
      taken = refl;
      fits = c.look_if_due.ensures.fits;
    }
