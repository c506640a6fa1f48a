use Rattle.std.proofs.Common.{◌≡◌, ◌∙◌, true, false, [], refl, sym, ap}
use Rattle.std.proofs.lemmas.List.{get_or_read}
use Rattle.scott_types.specs.Database.{item_at}
use Rattle.scott_rules.specs.Transfer.{is_taken}
use Rattle.adv_io.proofs.Sayings.{nothing_said}
use Rattle.scott_turn.proofs.item_turns.do_item_turn.Goals as goal

pub take_item-requires : goal.take_item-requires
take_item-requires g c = record { fits = c.requires.fits; there = c.requires.there }

pub returns-then-is_taken : goal.returns-then-is_taken
returns-then-is_taken g c =
    let game = c.args.game.now in
    let i = c.args.i in
    let items : c.items.result.now ≡ game.db.items = c.items.ensures.value ∙ ap (λ db. db.items) c.db.ensures in
    let item : c.index-items-i.result ≡ item_at game.db i = get_or_read game.db.items i c.index-items-i.result c.requires.there (rw items at c.index-items-i.is) (record { text = []; place = 0 }) in
    let taken : is_taken c.args.transfer i (item_at game.db i) c.args.state.now ≡ true = sym (rw item at c.is_taken.ensures) ∙ c.if-is_taken.true in
    record {
      does = rw taken c.take_item.ensures.does;
      fits = c.take_item.ensures.fits;
    }

pub returns-else-is_taken : goal.returns-else-is_taken
returns-else-is_taken g c =
    let game = c.args.game.now in
    let i = c.args.i in
    let items : c.items.result.now ≡ game.db.items = c.items.ensures.value ∙ ap (λ db. db.items) c.db.ensures in
    let item : c.index-items-i.result ≡ item_at game.db i = get_or_read game.db.items i c.index-items-i.result c.requires.there (rw items at c.index-items-i.is) (record { text = []; place = 0 }) in
    let passed : is_taken c.args.transfer i (item_at game.db i) c.args.state.now ≡ false = sym (rw item at c.is_taken.ensures) ∙ c.if-is_taken.false in
    record {
      does = rw passed (record { spoken = nothing_said _ _; tried = refl; left = refl });
      fits = c.requires.fits;
    }
