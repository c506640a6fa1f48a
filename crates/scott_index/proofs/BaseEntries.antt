-- The words of a column in an index, entry by entry.
use Rattle.std.proofs.Common.{◌≡◌, ◌∙◌, ℕ, ◌+◌, ◌≤◌, length, List, Bool, true, false, cond, Option, None, Some, refl, sym, ap}
use Rattle.std.proofs.lemmas.List.{drop_all, length-map}
use Rattle.std.specs.Option.{option_or}
use Rattle.std.specs.Prelude.{◌&&◌, is_some}
use Rattle.scott_types.specs.declared.commands.Column.{Column}
use Rattle.scott_types.specs.Database.{Database}
use Rattle.scott_rules.specs.Words.{column_of, entries_of, entry_from, is_typed}
use Rattle.scott_vocab.specs.Found.{which_from}
use Rattle.scott_index.specs.WordIndex.{WordIndex, found_in}
use Rattle.scott_index.specs.BaseEntries.{FindsWords, FindsWordsBefore}

-- what was found, then what is added, then what is found after it
found_or : (found base rest : Option ℕ) (names : Bool)
    → option_or (option_or found (cond names base None)) rest
    ≡ option_or found (cond (names && is_some base) base rest)
found_or (Some n) base rest names = refl
found_or None None rest true = refl
found_or None (Some n) rest true = refl
found_or None base rest false = refl

-- with the word of entry k an index has all words up to it
pub finds_further : (db : Database) (column : Column) (before base : Option ℕ) (k : ℕ)
    (word : List ℕ) (old new : WordIndex)
    → old.size ≡ db.header.length
    → ((typed : List ℕ) → which_from db column typed before k
    ≡ cond (is_typed db.header.length word typed && is_some base) base
    (which_from db column typed base (k + 1)))
    → ((typed : List ℕ) → found_in new typed
    ≡ option_or (found_in old typed) (cond (is_typed old.size word typed) base None))
    → FindsWordsBefore db column before k old → FindsWordsBefore db column base (k + 1) new
finds_further db column before base k word old new size at added finds = λ typed.
    let rest = which_from db column typed base (k + 1) in
    ap (λ o. option_or o rest) (added typed)
    ∙ ap (λ n. option_or
    (option_or (found_in old typed) (cond (is_typed n word typed) base None)) rest) size
    ∙ found_or (found_in old typed) base rest (is_typed db.header.length word typed)
    ∙ ap (option_or (found_in old typed)) (sym (at typed))
    ∙ finds typed

or_none : (found : Option ℕ) → found ≡ option_or found None
or_none None = refl
or_none (Some n) = refl

-- after the last entry it has all words
pub finds_all : (db : Database) (column : Column) (base : Option ℕ) (k : ℕ) (index : WordIndex)
    → length db.words ≤ k → FindsWordsBefore db column base k index
    → FindsWords db column index
finds_all db column base k index past finds = λ word.
    or_none (found_in index word)
    ∙ ap (λ entries. option_or (found_in index word)
    (entry_from db.header.length word base k entries))
    (sym (drop_all k (entries_of db column) (rw (length-map db.words (column_of column)) past)))
    ∙ finds word
