use Rattle.std.proofs.Common.{◌≡◌, ◌∙◌, ◌+◌, ◌*◌, ◌≤◌, ap, arith, rules, w32, to_z, of_z}
use Rattle.std.proofs.lemmas.List.FromFn.{length-map-range_with_len}
use Rattle.adv_gen.specs.Picks.{after, picks_before}
use Rattle.adv_gen.specs.Rooms.{room_picks, rooms}
use Rattle.adv_gen.specs.Items.{item_picks, items}
use Rattle.adv_gen.specs.Actions.{action_picks, actions}
use Rattle.adv_gen.specs.Made.{header, at_rooms, at_items, at_actions}
use Rattle.adv_gen.proofs.Picking.{none_taken-all}
use Rattle.adv_gen.proofs.games.parts.Goals as goal

pub header-header-requires : goal.header-header-requires
header-header-requires c =
    let size = c.args.size in
    let small : size ≤ 120 = c.requires.small in
    rw (
      c.as_slice.ensures.value,
      c.in_ok-items.ensures.made,
      length-map-range_with_len _ 0 (2 * size),
    ) (omega arith)

pub returns-clause-made : goal.returns-clause-made
returns-clause-made c =
    let size = c.args.size in
    let words_end : c.each.new.picks ≡ at_rooms size =
    none_taken-all (size + 37) _ _ c.in_ok-words.ensures.next ∙ c.requires.first in
    let messages_end : c.each-2.new.picks ≡ at_rooms size =
    none_taken-all (2 * size + 11) _ _ c.in_ok-messages.ensures.next ∙ words_end in
    let rooms_end : c.each-3.new.picks ≡ at_items size =
    c.in_ok-rooms.ensures.next ∙ ap (after (picks_before room_picks (size + 1))) messages_end in
    let items_end : c.each-4.new.picks ≡ at_actions size =
    c.in_ok-items.ensures.next ∙ ap (after (picks_before item_picks (2 * size))) rooms_end in
    let rooms_are = c.in_ok-rooms.ensures.made ∙ ap (rooms size) messages_end in
    let items_are = c.in_ok-items.ensures.made ∙ ap (items size) rooms_end in
    let actions_are = c.in_ok-actions.ensures.made ∙ ap (actions size) items_end in
    let header_is = c.header-header.ensures ∙ ap header (c.as_slice.ensures.value ∙ items_are) in
    let kept : to_z w32 (of_z w32 c.from.result) ≡ c.from.result = search rules in
    rw (
      header_is,
      actions_are,
      c.in_ok-words.ensures.made,
      rooms_are,
      c.in_ok-messages.ensures.made,
      items_are,
      c.in_ok-comments.ensures,
      kept ∙ c.from.ensures,
    )

pub returns-clause-next : goal.returns-clause-next
returns-clause-next c =
    let size = c.args.size in
    let words_end : c.each.new.picks ≡ at_rooms size =
    none_taken-all (size + 37) _ _ c.in_ok-words.ensures.next ∙ c.requires.first in
    let messages_end : c.each-2.new.picks ≡ at_rooms size =
    none_taken-all (2 * size + 11) _ _ c.in_ok-messages.ensures.next ∙ words_end in
    let rooms_end : c.each-3.new.picks ≡ at_items size =
    c.in_ok-rooms.ensures.next ∙ ap (after (picks_before room_picks (size + 1))) messages_end in
    let items_end : c.each-4.new.picks ≡ at_actions size =
    c.in_ok-items.ensures.next ∙ ap (after (picks_before item_picks (2 * size))) rooms_end in
    c.in_ok-actions.ensures.next ∙ ap (after (picks_before action_picks (5 * size + 5))) items_end
