use Rattle.std.proofs.lemmas.Result.{err_from_is_err_and}
use Rattle.adv_io.proofs.Along.{as_ok, as_err}
use Rattle.scott_turn.proofs.Items.{lines-left}
use Rattle.scott_turn.proofs.item_turns.try_item_actions.Goals as goal

pub returns-clause-does : goal.returns-clause-does
returns-clause-does g c =
    let found = rw (c.command_for-command.ensures.verb, c.command_for-command.ensures.noun) at c.in_ok-found.ensures.does in
    record {
      spoken = as_ok _ found.spoken;
      tried = found.tried;
      left = rw c.ending_in.ensures (lines-left _ c.search.new.state c.in_ok-found.found found.left);
    }

pub returns-in_err-found-clause-does : goal.returns-in_err-found-clause-does
returns-in_err-found-clause-does g c =
    let p = err_from_is_err_and c.from_residual.result c.from_residual.ensures.1 in
    rw (p.1) (record {
      spoken = as_err p.0 (rw (c.command_for-command.ensures.verb, c.command_for-command.ensures.noun) at c.in_err-found.ensures.does.spoken);
      tried = tt;
      left = tt;
    })
