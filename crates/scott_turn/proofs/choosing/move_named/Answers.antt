use Rattle.std.proofs.Common.{◌≡◌, ◌∙◌, true, false, refl, sym}
use Rattle.std.proofs.lemmas.Result.{IfOk-weaker}
use Rattle.scott_rules.specs.Transfer.{is_refused}
use Rattle.scott_turn.proofs.choosing.move_named.Goals as goal

pub returns-then-is_refused : goal.returns-then-is_refused
returns-then-is_refused g c =
    let refused : is_refused c.args.transfer c.args.game.now.db c.args.state.now ≡ true = sym (rw c.db.ensures at c.is_refused.ensures) ∙ c.if-is_refused.true in
    record {
      does = rw refused (record {
        spoken = rw (c.text_in.ensures, c.style.ensures) at c.say_only.ensures.spoken;
        left = IfOk-weaker c.say_only.result _ _ (λ over is. rw is refl) c.say_only.ensures.over;
      });
      fits = c.requires.fits;
    }

pub returns-else-is_refused : goal.returns-else-is_refused
returns-else-is_refused g c =
    let goes : is_refused c.args.transfer c.args.game.now.db c.args.state.now ≡ false = sym (rw c.db.ensures at c.is_refused.ensures) ∙ c.if-is_refused.false in
    record {
      does = rw goes (record {
        spoken = rw (c.item_for-item.ensures.value, c.db-else-is_refused.ensures) at c.move_one.ensures.does.spoken;
        left = rw (c.item_for-item.ensures.value, c.db-else-is_refused.ensures) at c.move_one.ensures.does.left;
      });
      fits = c.move_one.ensures.fits;
    }
