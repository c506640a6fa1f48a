use Rattle.std.proofs.Common.{◌∙◌, ◌++◌, ap}
use Rattle.adv_check.specs.Sites.{each_from, action_sites, room_sites, item_sites, sites, warnings_of}
use Rattle.adv_check.proofs.Joined.{both}
use Rattle.adv_check.proofs.searching.warnings.Goals as goal

pub returns : goal.returns
returns c =
    let db = c.args.db.now in
    let lines = each_from 0 (action_sites db) db.actions in
    let rooms = each_from 0 (room_sites db) db.rooms in
    let items = each_from 0 (item_sites db) db.items in
    let after_actions =
    both c.add_entries.new.found.items c.add_entries-2.new.found.items c.add_entries-3.new.found.items rooms items
    (rw c.rooms.ensures.value at c.in_ok-add_entries-2.ensures) (rw c.items.ensures.value at c.in_ok-add_entries-3.ensures) in
    both c.new-found.result.items c.add_entries.new.found.items c.add_entries-3.new.found.items lines _
    (rw c.actions.ensures.value at c.in_ok-add_entries.ensures) after_actions
    ∙ ap (λ found. found ++ warnings_of (sites db)) c.new-found.ensures.items
