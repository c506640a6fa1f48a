use Rattle.std.proofs.Common.{◌≡◌, [], refl, sym, ap}
use Rattle.std.proofs.lemmas.Result.{err_from_is_err_and}
use Rattle.std.specs.Prelude.{if◌then◌else◌}
use Rattle.adv_io.specs.Steps.{said_steps}
use Rattle.scott_rules.specs.Transfer.{none_taken, all_items}
use Rattle.adv_io.proofs.Along.{as_ok, as_err, steps_then, steps_stop}
use Rattle.scott_turn.proofs.Tallying.{tallied-quiet, noted-said}
use Rattle.scott_turn.proofs.all_items.transfer_all_items.Goals as goal

pub returns : goal.returns
returns g c =
    let t = all_items c.args.transfer c.args.game.now c.args.typed.now 0 c.args.game.now.db.items c.args.state.now in
    let any_taken : c.in_ok-all_result.all_result.any_taken ≡ t.value.any_taken = sym (ap (λ o. o.any_taken) c.in_ok-all_result.ensures.does.left) in
    record {
      does = record {
        spoken = steps_then t.events (said_steps (if t.value.any_taken then [] else none_taken c.args.transfer)) c.in_ok-all_result.ensures.does.spoken
            (as_ok _ (rw (c.text_after.ensures, any_taken) at c.in_ok-say_text.ensures));
        tried = tallied-quiet t.events (said_steps (if t.value.any_taken then [] else none_taken c.args.transfer)) c.args.tally.now (noted-said (if t.value.any_taken then [] else none_taken c.args.transfer)) c.in_ok-all_result.ensures.does.tried;
        left = rw c.in_ok-all_result.ensures.does.left refl;
      };
      fits = c.all_items.ensures.fits;
    }

pub returns-in_err-say_text : goal.returns-in_err-say_text
returns-in_err-say_text g c =
    let t = all_items c.args.transfer c.args.game.now c.args.typed.now 0 c.args.game.now.db.items c.args.state.now in
    let any_taken : c.in_ok-all_result.all_result.any_taken ≡ t.value.any_taken = sym (ap (λ o. o.any_taken) c.in_ok-all_result.ensures.does.left) in
    let p = err_from_is_err_and c.from_residual-in_err-say_text.result c.from_residual-in_err-say_text.ensures.1 in
    record {
      does = rw (p.1) (record {
        spoken = steps_then t.events (said_steps (if t.value.any_taken then [] else none_taken c.args.transfer)) c.in_ok-all_result.ensures.does.spoken
            (as_err p.0 (rw (c.text_after.ensures, any_taken) at c.in_err-say_text.ensures));
        tried = tt;
        left = tt;
      });
      fits = c.all_items.ensures.fits;
    }

pub returns-in_err-all_result : goal.returns-in_err-all_result
returns-in_err-all_result g c =
    let t = all_items c.args.transfer c.args.game.now c.args.typed.now 0 c.args.game.now.db.items c.args.state.now in
    let p = err_from_is_err_and c.from_residual.result c.from_residual.ensures.1 in
    record {
      does = rw (p.1) (record {
        spoken = steps_stop p.0 t.events (said_steps (if t.value.any_taken then [] else none_taken c.args.transfer)) c.in_err-all_result.ensures.does.spoken;
        tried = tt;
        left = tt;
      });
      fits = c.all_items.ensures.fits;
    }
