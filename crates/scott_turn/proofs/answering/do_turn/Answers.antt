use Rattle.std.proofs.lemmas.Result.{err_from_is_err_and}
use Rattle.std.proofs.Common.{◌≡◌, sym, ap}
use Rattle.scott_rules.specs.Rounds.{turn_ended, command_result}
use Rattle.adv_io.proofs.Along.{steps_then, steps_stop}
use Rattle.scott_turn.proofs.Tallying.{tallied-only, ended-none}
use Rattle.scott_turn.proofs.answering.do_turn.Goals as goal

pub returns : goal.returns
returns g c =
    let t = command_result c.args.game.now c.args.typed.now c.args.command.verb c.args.command.noun c.args.state.now in
    let state : c.do_command.new.state ≡ t.value.state = sym (ap (λ o. o.state) c.in_ok-over.ensures.does.left) in
    let over : c.in_ok-over.over ≡ t.value.over = sym (ap (λ o. o.over) c.in_ok-over.ensures.does.left) in
    record {
      does = record {
        spoken = steps_then t.events (turn_ended c.args.game.now.style t.value.over t.value.state).events c.in_ok-over.ensures.does.spoken
            (rw (state, over) at c.end_turn.ensures.does.spoken);
        tried = tallied-only c.end_turn.result t.events (turn_ended c.args.game.now.style t.value.over t.value.state).events c.args.tally.now (ended-none c.args.game.now.style t.value.over t.value.state) c.in_ok-over.ensures.does.tried;
        left = rw (state, over) at c.end_turn.ensures.does.left;
      };
      fits = c.end_turn.ensures.fits;
    }

pub returns-in_err-over : goal.returns-in_err-over
returns-in_err-over g c =
    let t = command_result c.args.game.now c.args.typed.now c.args.command.verb c.args.command.noun c.args.state.now in
    let p = err_from_is_err_and c.from_residual.result c.from_residual.ensures.1 in
    record {
      does = rw (p.1) (record {
        spoken = steps_stop p.0 t.events (turn_ended c.args.game.now.style t.value.over t.value.state).events c.in_err-over.ensures.does.spoken;
        tried = tt;
        left = tt;
      });
      fits = c.do_command.ensures.fits;
    }
