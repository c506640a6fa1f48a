use Rattle.std.proofs.Common.{◌≡◌, ◌++◌, drop, map, flat_map}
use Rattle.scott_rules.specs.Words.{column_of, entries_of}
use Rattle.trans_specs.specs.Tables.{entry_letters}
use Rattle.trans_data.proofs.word_tables.word_letters.Given as goal

-- the letters of the entries before, and of those to come, are all
abbrev pub invariant-loop-word : goal.invariant-loop-word
invariant-loop-word l =
    flat_map (entry_letters l.db.header.length) (entries_of l.db l.column)
    ≡ l.numbers.items
    ++ flat_map (entry_letters l.db.header.length)
    (map (column_of l.column) (drop l.word-index l.words))
