use Rattle.std.proofs.Common.{◌≡◌, ◌∙◌, ◌++◌, true, false, [], refl, sym, ap}
use Rattle.std.proofs.lemmas.List.{get_or_read}
use Rattle.std.proofs.lemmas.Result.{IfOk-weaker}
use Rattle.scott_types.specs.declared.phrases.Phrase.TheVariants.{TooMuch, ItemDone}
use Rattle.scott_types.specs.Database.{item_at}
use Rattle.scott_types.specs.ItemText.{shown}
use Rattle.scott_types.specs.Phrase.{text_of, text_in}
use Rattle.scott_rules.specs.Transfer.{is_refused}
use Rattle.scott_turn.proofs.Showing.{shown_said}
use Rattle.scott_turn.proofs.item_turns.move_taken.Goals as goal

pub returns-then-is_refused : goal.returns-then-is_refused
returns-then-is_refused g c =
    let game = c.args.game.now in
    let refused : is_refused c.args.transfer game.db c.args.state.now ≡ true = sym (rw c.db.ensures at c.is_refused.ensures) ∙ c.if-is_refused.true in
    record {
      does = record {
        spoken = rw (refused, shown_said (text_in game.style TooMuch)) (rw c.style.ensures at c.say_too_much.ensures.spoken);
        left = rw refused (IfOk-weaker c.say_too_much.result _ _ (λ item_turn is. rw is refl) c.say_too_much.ensures.item_turn);
      };
      fits = c.requires.fits;
    }

pub returns-else-is_refused : goal.returns-else-is_refused
returns-else-is_refused g c =
    let game = c.args.game.now in
    let i = c.args.i in
    let goes : is_refused c.args.transfer game.db c.args.state.now ≡ false = sym (rw c.db.ensures at c.is_refused.ensures) ∙ c.if-is_refused.false in
    let items : c.items.result.now ≡ game.db.items = c.items.ensures.value ∙ ap (λ db. db.items) c.db-else-is_refused.ensures in
    let item : c.index-items-i.result ≡ item_at game.db i = get_or_read game.db.items i c.index-items-i.result c.requires.there (rw items at c.index-items-i.is) (record { text = []; place = 0 }) in
    record {
      does = record {
        spoken = rw (goes, shown_said (shown (item_at game.db i).text ++ text_of ItemDone)) (rw item at c.say_moved.ensures.spoken);
        left = rw (goes, c.transfer_item.ensures.state) (IfOk-weaker c.say_moved.result _ _ (λ item_turn is. rw is refl) c.say_moved.ensures.item_turn);
      };
      fits = rw c.db-else-is_refused-2.ensures at c.transfer_item.ensures.fits;
    }
