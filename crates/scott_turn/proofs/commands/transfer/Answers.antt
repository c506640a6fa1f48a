use Rattle.std.proofs.Common.{◌≡◌, ◌∙◌, true, false, sym}
use Rattle.scott_rules.specs.Transfer.{is_all, one_transferred}
use Rattle.scott_turn.proofs.Tallying.{tallied-none, one-none}
use Rattle.scott_turn.proofs.commands.transfer.Goals as goal

pub returns-then-is_all : goal.returns-then-is_all
returns-then-is_all g c =
    let all : is_all c.args.typed.now ≡ true = sym c.is_all.ensures ∙ c.if-is_all.true in
    record {
      does = rw all c.transfer_all.ensures.does;
      fits = c.transfer_all.ensures.fits;
    }

pub returns-else-is_all : goal.returns-else-is_all
returns-else-is_all g c =
    let one : is_all c.args.typed.now ≡ false = sym c.is_all.ensures ∙ c.if-is_all.false in
    record {
      does = rw one (record {
        spoken = c.transfer_one.ensures.does.spoken;
        tried = tallied-none c.transfer_one.result (one_transferred c.args.transfer c.args.game.now c.args.noun c.args.state.now).events c.args.tally.now (one-none c.args.transfer c.args.game.now c.args.noun c.args.state.now);
        left = c.transfer_one.ensures.does.left;
      });
      fits = c.transfer_one.ensures.fits;
    }
