use Rattle.std.proofs.Common.{◌≡◌, ◌++◌, drop, map}
use Rattle.trans_data.specs.Items.{class_of_item}
use Rattle.trans_data.proofs.item_tables.item_classes.Given as goal

-- what was made of those before, and what is to be made of those to come, are all
abbrev pub invariant-loop-item : goal.invariant-loop-item
invariant-loop-item l =
    map (class_of_item l.nouns) l.items
    ≡ l.numbers.items ++ map (class_of_item l.nouns) (drop l.item-index l.items)
