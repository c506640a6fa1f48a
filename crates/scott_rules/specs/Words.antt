-- The vocabulary: which words match, and which entry a word names.
use Rattle.std.specs.Prelude.{ℕ, ◌+◌, ◌&&◌, Bool, true, false, not, List, [], ◌∷◌, map, drop, take, slice_index_or, Option, Some, None, is_some, if◌then◌else◌}
use Rattle.std.specs.Str.{str_eq_ignore_ascii_case}
use Rattle.scott_types.specs.declared.parts.Word.{Word}
use Rattle.scott_types.specs.declared.commands.Column.{Column}
use Rattle.scott_types.specs.declared.commands.Column.TheVariants.{Verbs, Nouns}
use Rattle.scott_types.specs.Database.{Database}
use Rattle.scott_types.specs.ItemText.{is_starred}

abbrev pub is_empty : List ℕ → Bool
is_empty [] = true
is_empty (byte ∷ word) = false

-- two words match where their first bytes, as many as count, are the same but for capitals
abbrev pub matches : ℕ → List ℕ → List ℕ → Bool
matches size a b = str_eq_ignore_ascii_case (take size a) (take size b)

-- a word of the database is typed: an empty one never is
abbrev pub is_typed : ℕ → List ℕ → List ℕ → Bool
is_typed size word typed = not (is_empty word) && matches size word typed

-- an entry without the mark of a synonym
abbrev pub spelling : List ℕ → List ℕ
spelling entry = if is_starred entry then drop 1 entry else entry

-- The base entry of the first entry that the word matches and that has a base entry. The entries
-- are numbered from k on, and `base` is the nearest base entry before them.
abbrev pub entry_from : ℕ → List ℕ → Option ℕ → ℕ → List (List ℕ) → Option ℕ
entry_from size word base k [] = None
entry_from size word base k (entry ∷ entries) =
    let nearest = if is_starred entry then base else Some k in
    if is_typed size (spelling entry) word && is_some nearest then nearest
    else entry_from size word nearest (k + 1) entries

abbrev pub column_of : Column → Word → List ℕ
column_of Verbs word = word.verb
column_of Nouns word = word.noun

-- the texts of a column's entries
abbrev pub entries_of : Database → Column → List (List ℕ)
entries_of db column = map (column_of column) db.words

-- the base entry that a word names: entry 0 is never searched
abbrev pub which : Database → Column → List ℕ → Option ℕ
which db column word = entry_from db.header.length word None 1 (drop 1 (entries_of db column))

-- the text of a noun
abbrev pub root : Database → ℕ → List ℕ
root db noun = slice_index_or (entries_of db Nouns) noun []
