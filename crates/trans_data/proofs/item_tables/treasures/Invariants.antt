use Rattle.std.proofs.Common.{◌≡◌, ◌++◌, drop, map}
use Rattle.scott_types.specs.ItemText.{is_treasure}
use Rattle.trans_specs.specs.Tables.{bit}
use Rattle.trans_data.proofs.item_tables.treasures.Given as goal

-- what was made of those before, and what is to be made of those to come, are all
abbrev pub invariant-loop-item : goal.invariant-loop-item
invariant-loop-item l =
    map (λ item. bit (is_treasure item.text)) l.items ≡ l.numbers.items ++ map
    (λ item. bit (is_treasure item.text)) (drop l.item-index l.items)
