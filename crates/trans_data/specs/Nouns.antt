-- An index of the classes: the class of each word.
use Rattle.std.specs.Prelude.{◌≡◌, ◌&&◌, ℕ, List, Option, drop}
use Rattle.std.specs.List.{position_from}
use Rattle.std.specs.Option.{option_or}
use Rattle.scott_types.specs.declared.commands.Column.TheVariants.{Nouns}
use Rattle.scott_types.specs.Database.{Database}
use Rattle.scott_rules.specs.Words.{entries_of, is_typed}
use Rattle.scott_index.specs.WordIndex.{WordIndex, found_in}
use Rattle.trans_specs.specs.Tables.{is_class}

-- the first class from noun k on that a word matches
abbrev pub class_from : Database → List ℕ → ℕ → Option ℕ
class_from db word k =
    position_from (λ noun. is_class noun && is_typed db.header.length noun word) k
    (drop k (entries_of db Nouns))

-- for every word an index has its class
abbrev pub FindsClasses : Database → WordIndex → Type 0
FindsClasses db index = (word : List ℕ) → found_in index word ≡ class_from db word 1

-- for every word an index has its class, or the word has it from noun k on
abbrev pub FindsClassesBefore : Database → ℕ → WordIndex → Type 0
FindsClassesBefore db k index = (word : List ℕ)
    → option_or (found_in index word) (class_from db word k) ≡ class_from db word 1
