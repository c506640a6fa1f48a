use Rattle.std.proofs.Common.{◌≡◌, ◌++◌, drop, map}
use Rattle.scott_types.specs.ItemText.{shown}
use Rattle.trans_data.proofs.descriptions.item_texts.Given as goal

-- what is shown of the items before, and of those to come, is all
abbrev pub invariant-loop-item : goal.invariant-loop-item
invariant-loop-item l =
    map (λ item. shown item.text) l.items
    ≡ map (λ text. text.items) l.texts.items
    ++ map (λ item. shown item.text) (drop l.item-index l.items)
