use Rattle.std.proofs.lemmas.Result.{err_from_is_err_and}
use Rattle.std.proofs.Common.{◌≡◌, sym, ap}
use Rattle.scott_rules.specs.Groups.{groups}
use Rattle.scott_rules.specs.Search.{search_result}
use Rattle.scott_rules.specs.Rounds.{by_found}
use Rattle.adv_io.proofs.Along.{steps_then, steps_stop}
use Rattle.scott_turn.proofs.Tallying.{tallied_then}
use Rattle.scott_turn.proofs.commands.do_by_actions.Goals as goal

pub returns : goal.returns
returns g c =
    let game = c.args.game.now in
    let verb = c.args.command.verb in
    let noun = c.args.command.noun in
    let t = search_result game c.args.typed.now verb noun (groups game.db) c.args.state.now in
    let state : c.search.new.state ≡ t.value.state = sym (ap (λ o. o.state) c.in_ok-found.ensures.does.left) in
    let found : c.in_ok-found.found ≡ t.value.found = sym (ap (λ o. o.found) c.in_ok-found.ensures.does.left) in
    record {
      does = record {
        spoken = steps_then t.events (by_found t.value.found game c.args.typed.now verb noun t.value.state).events c.in_ok-found.ensures.does.spoken
            (rw (state, found) at c.finish_command.ensures.does.spoken);
        tried = tallied_then c.finish_command.result t.events (by_found t.value.found game c.args.typed.now verb noun t.value.state).events c.args.tally.now c.finish_command.new.tally c.in_ok-found.ensures.does.tried (rw (state, found) at c.finish_command.ensures.does.tried);
        left = rw (state, found) at c.finish_command.ensures.does.left;
      };
      fits = c.finish_command.ensures.fits;
    }

pub returns-in_err-found : goal.returns-in_err-found
returns-in_err-found g c =
    let game = c.args.game.now in
    let verb = c.args.command.verb in
    let noun = c.args.command.noun in
    let t = search_result game c.args.typed.now verb noun (groups game.db) c.args.state.now in
    let p = err_from_is_err_and c.from_residual.result c.from_residual.ensures.1 in
    record {
      does = rw (p.1) (record {
        spoken = steps_stop p.0 t.events (by_found t.value.found game c.args.typed.now verb noun t.value.state).events c.in_err-found.ensures.does.spoken;
        tried = tt;
        left = tt;
      });
      fits = c.search.ensures.fits;
    }
