use Rattle.std.proofs.Common.{◌≡◌, ◌++◌, drop, map}
use Rattle.scott_types.specs.Database.{place_of_item}
use Rattle.trans_data.proofs.item_tables.start_places.Given as goal

-- what was made of those before, and what is to be made of those to come, are all
abbrev pub invariant-loop-item : goal.invariant-loop-item
invariant-loop-item l =
    map place_of_item l.items ≡ l.numbers.items ++ map place_of_item (drop l.item-index l.items)
