use Rattle.std.proofs.lemmas.Result.{err_from_is_err_and}
use Rattle.scott_types.specs.Database.{item_at}
use Rattle.std.proofs.Common.{◌≡◌, sym, ap}
use Rattle.scott_turn.specs.ItemTurns.{item_actions, after_actions}
use Rattle.adv_io.proofs.Along.{steps_then, steps_stop}
use Rattle.scott_turn.proofs.Tallying.{tallied-only, after_actions-none}
use Rattle.scott_turn.proofs.item_turns.take_item.Goals as goal

pub returns : goal.returns
returns g c =
    let game = c.args.game.now in
    let i = c.args.i in
    let item = item_at game.db i in
    let lines = item_actions c.args.transfer game c.args.typed.now item c.args.state.now in
    let state : c.try_item_actions.new.state ≡ lines.value.state = sym (ap (λ o. o.state) c.in_ok-over.ensures.does.left) in
    let over : c.in_ok-over.over ≡ lines.value.over = sym (ap (λ o. o.over) c.in_ok-over.ensures.does.left) in
    record {
      does = record {
        spoken = steps_then lines.events (after_actions lines.value.over c.args.transfer game i item lines.value.state).events
            c.in_ok-over.ensures.does.spoken (rw (state, over) at c.finish_item.ensures.does.spoken);
        tried = tallied-only c.finish_item.result lines.events (after_actions lines.value.over c.args.transfer game i item lines.value.state).events c.args.tally.now (after_actions-none lines.value.over c.args.transfer game i item lines.value.state) c.in_ok-over.ensures.does.tried;
        left = rw (state, over) at c.finish_item.ensures.does.left;
      };
      fits = c.finish_item.ensures.fits;
    }

pub returns-in_err-over-clause-does : goal.returns-in_err-over-clause-does
returns-in_err-over-clause-does g c =
    let game = c.args.game.now in
    let i = c.args.i in
    let item = item_at game.db i in
    let lines = item_actions c.args.transfer game c.args.typed.now item c.args.state.now in
    let p = err_from_is_err_and c.from_residual.result c.from_residual.ensures.1 in
    rw (p.1) (record {
      spoken = steps_stop p.0 lines.events (after_actions lines.value.over c.args.transfer game i item lines.value.state).events c.in_err-over.ensures.does.spoken;
      tried = tt;
      left = tt;
    })
