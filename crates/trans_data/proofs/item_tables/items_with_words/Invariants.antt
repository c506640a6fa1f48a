use Rattle.std.proofs.Common.{◌≡◌, ◌++◌, drop, map}
use Rattle.std.specs.Prelude.{not}
use Rattle.scott_rules.specs.Words.{is_empty}
use Rattle.trans_specs.specs.Tables.{bit, item_word}
use Rattle.trans_data.proofs.item_tables.items_with_words.Given as goal

-- what was made of those before, and what is to be made of those to come, are all
abbrev pub invariant-loop-item : goal.invariant-loop-item
invariant-loop-item l =
    map (λ item. bit (not (is_empty (item_word item)))) l.items ≡ l.numbers.items ++ map
    (λ item. bit (not (is_empty (item_word item)))) (drop l.item-index l.items)
