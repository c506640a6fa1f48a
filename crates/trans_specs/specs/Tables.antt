-- The arrays of a translated game: what each holds when the game opens.
use Rattle.std.specs.Prelude.{ℕ, ◌+◌, ◌-◌, ◌&&◌, Bool, not, if◌then◌else◌, List, [], ◌∷◌, ◌++◌, map, drop, length, replicate, flat_map, Option, Some, None, unwrap_or}
use Rattle.std.specs.List.{list_all, position_from}
use Rattle.std.specs.Char.{is_ascii_graphic}
use Rattle.scott_types.specs.declared.parts.Item.{Item}
use Rattle.scott_types.specs.declared.parts.Room.{Room}
use Rattle.scott_types.specs.declared.commands.Column.{Column}
use Rattle.scott_types.specs.declared.commands.Column.TheVariants.{Nouns}
use Rattle.scott_types.specs.Database.{Database, place_of_item}
use Rattle.scott_types.specs.ItemText.{is_starred, get_word, is_treasure}
use Rattle.scott_types.specs.Room.{room_beyond}
use Rattle.scott_rules.specs.Words.{is_empty, is_typed, spelling, entries_of, which}
use Rattle.scott_vocab.specs.Keys.{letters}

-- a truth value as a number
abbrev pub bit : Bool → ℕ
bit b = if b then 1 else 0

-- a number that may be missing
abbrev pub or_zero : Option ℕ → ℕ
or_zero n = unwrap_or n 0

-- a list of contents ends with one 0 that no rule reads
abbrev pub guarded : List ℕ → List ℕ
guarded xs = xs ++ 0 ∷ []

-- ---- places and exits

abbrev pub start_places : Database → List ℕ
start_places db = guarded (map place_of_item db.items)

-- six of each room: the room beyond, or 0
abbrev pub exits_of_room : Database → Room → List ℕ
exits_of_room db room = map (room_beyond (length db.rooms)) room.exits

abbrev pub exits : Database → List ℕ
exits db = guarded (flat_map (exits_of_room db) db.rooms)

-- ---- the letters of words, as many to each as count

-- with 0 for each letter that a shorter word doesn't have
abbrev pub filled_up : ℕ → List ℕ → List ℕ
filled_up size word = word ++ replicate (size - length word) 0

-- a word with a byte that can't be typed has no letters
abbrev pub printed_letters : ℕ → List ℕ → List ℕ
printed_letters size word =
    if list_all is_ascii_graphic word then filled_up size word else replicate size 0

-- of an entry without the mark of a synonym
abbrev pub entry_letters : ℕ → List ℕ → List ℕ
entry_letters size entry = printed_letters size (letters size (spelling entry))

abbrev pub word_letters : Database → Column → List ℕ
word_letters db column =
    guarded (flat_map (entry_letters db.header.length) (entries_of db column))

-- ---- base entries

-- the base entry of each entry, or 0; the entries are numbered from k on, and `base` is the nearest
-- base entry before them
abbrev pub bases_from : Option ℕ → ℕ → List (List ℕ) → List ℕ
bases_from base k [] = []
bases_from base k (entry ∷ entries) =
    let nearest = if is_starred entry then base else Some k in
    or_zero nearest ∷ bases_from nearest (k + 1) entries

-- entry 0 has none
abbrev pub bases : List (List ℕ) → List ℕ
bases [] = []
bases (entry ∷ entries) = 0 ∷ bases_from None 1 entries

abbrev pub word_bases : Database → Column → List ℕ
word_bases db column = guarded (bases (entries_of db column))

-- ---- classes: nouns that can't be told apart as they are typed

-- a base entry with a text
abbrev pub is_class : List ℕ → Bool
is_class entry = not (is_starred entry) && not (is_empty entry)

-- the least such noun from 1 on that a word matches, or 0
abbrev pub class_of : Database → List ℕ → ℕ
class_of db word =
    or_zero (position_from (λ noun. is_class noun && is_typed db.header.length noun word) 1
    (drop 1 (entries_of db Nouns)))

abbrev pub class_of_noun : Database → List ℕ → ℕ
class_of_noun db noun = if is_class noun then class_of db noun else 0

-- noun 0 has none
abbrev pub classes : Database → List (List ℕ) → List ℕ
classes db [] = []
classes db (noun ∷ nouns) = 0 ∷ map (class_of_noun db) nouns

abbrev pub noun_classes : Database → List ℕ
noun_classes db = guarded (classes db (entries_of db Nouns))

-- ---- items

-- the word by which an item is taken; it may be empty
abbrev pub item_word : Item → List ℕ
item_word item = get_word item.text

abbrev pub item_classes : Database → List ℕ
item_classes db = guarded (map (λ item. class_of db (item_word item)) db.items)

abbrev pub item_nouns : Database → List ℕ
item_nouns db = guarded (map (λ item. or_zero (which db Nouns (item_word item))) db.items)

abbrev pub items_with_words : Database → List ℕ
items_with_words db = guarded (map (λ item. bit (not (is_empty (item_word item)))) db.items)

abbrev pub treasures : Database → List ℕ
treasures db = guarded (map (λ item. bit (is_treasure item.text)) db.items)

-- ---- the line buffer

-- room for a line of 120 bytes, before it its capacity and its length, after it one entry more
abbrev pub buffer_length : ℕ
buffer_length = 123
