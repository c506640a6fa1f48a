use Rattle.std.proofs.Common.{◌≡◌, ◌++◌, drop, map}
use Rattle.scott_types.specs.declared.commands.Column.TheVariants.{Nouns}
use Rattle.scott_rules.specs.Words.{which}
use Rattle.trans_specs.specs.Tables.{or_zero, item_word}
use Rattle.trans_data.proofs.item_tables.item_nouns.Given as goal

-- what was made of those before, and what is to be made of those to come, are all
abbrev pub invariant-loop-item : goal.invariant-loop-item
invariant-loop-item l =
    map (λ item. or_zero (which l.nouns Nouns (item_word item))) l.items ≡ l.numbers.items ++ map
    (λ item. or_zero (which l.nouns Nouns (item_word item))) (drop l.item-index l.items)
