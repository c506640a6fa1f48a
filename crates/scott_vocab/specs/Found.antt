-- What is found in the vocabulary from an entry on.
use Rattle.std.specs.Prelude.{ℕ, List, drop, Option}
use Rattle.scott_types.specs.declared.commands.Column.{Column}
use Rattle.scott_types.specs.Database.{Database}
use Rattle.scott_rules.specs.Words.{entries_of, entry_from}

-- what a word names from entry k on, where `base` is the nearest base entry before that one
abbrev pub which_from : Database → Column → List ℕ → Option ℕ → ℕ → Option ℕ
which_from db column word base k =
    entry_from db.header.length word base k (drop k (entries_of db column))
