-- An index of the words of a column: the base entry that each names.
use Rattle.std.specs.Prelude.{◌≡◌, ℕ, List, Option}
use Rattle.std.specs.Option.{option_or}
use Rattle.scott_types.specs.declared.commands.Column.{Column}
use Rattle.scott_types.specs.declared.commands.Column.TheVariants.{Verbs, Nouns}
use Rattle.scott_types.specs.Database.{Database}
use Rattle.scott_rules.specs.Words.{which}
use Rattle.scott_vocab.specs.Found.{which_from}
use Rattle.scott_index.specs.WordIndex.{WordIndex, found_in}

-- for every word an index has the base entry that it names
abbrev pub FindsWords : Database → Column → WordIndex → Type 0
FindsWords db column index = (word : List ℕ) → found_in index word ≡ which db column word

-- for every word an index has the base entry that it names, or the word names it from entry k on,
-- where `base` is the nearest base entry before that one
abbrev pub FindsWordsBefore : Database → Column → Option ℕ → ℕ → WordIndex → Type 0
FindsWordsBefore db column base k index = (word : List ℕ)
    → option_or (found_in index word) (which_from db column word base k) ≡ which db column word

-- the indexes of both columns
pub record FindsAllWords (db : Database) (verbs nouns : WordIndex) : Type 0 where
  pub has_verbs : FindsWords db Verbs verbs
  pub has_nouns : FindsWords db Nouns nouns
