-- The words of the language. A word that is none of them is a name.
use Rattle.std.specs.Prelude.{ℕ, ◌+◌, ◌-◌, ◌||◌, Bool, not, List, [], ◌∷◌, Option, Some, None, codes, is_some, slice_index_or}
use Rattle.std.specs.List.{position}
use Rattle.std.specs.Str.{bytes_eq}

-- the number of a word in a list of words
abbrev pub among : List (List ℕ) → List ℕ → Option ℕ
among words word = position (λ w. bytes_eq w word) words

-- the words of conditions by their codes, from 0 on
abbrev pub condition_words : List (List ℕ)
condition_words =
    codes "param" ∷ codes "carried" ∷ codes "here" ∷ codes "near" ∷ codes "at" ∷ codes "not_here"
    ∷ codes "not_carried"
    ∷ codes "not_at" ∷ codes "flag_set" ∷ codes "flag_clear" ∷ codes "some_carried"
    ∷ codes "none_carried" ∷ codes "not_near"
    ∷ codes "in_game" ∷ codes "out_of_game" ∷ codes "counter_most" ∷ codes "counter_over"
    ∷ codes "at_start"
    ∷ codes "not_at_start" ∷ codes "counter_is" ∷ []

-- the words of opcodes by their numbers, from 52 on
abbrev pub opcode_words : List (List ℕ)
opcode_words =
    codes "get" ∷ codes "drop" ∷ codes "go" ∷ codes "remove" ∷ codes "darken" ∷ codes "lighten"
    ∷ codes "set" ∷ codes "remove2"
    ∷ codes "clear" ∷ codes "die" ∷ codes "put" ∷ codes "finish" ∷ codes "look" ∷ codes "score"
    ∷ codes "inventory"
    ∷ codes "set0" ∷ codes "clear0" ∷ codes "refill" ∷ codes "screen" ∷ codes "save" ∷ codes "swap"
    ∷ codes "more"
    ∷ codes "take" ∷ codes "join" ∷ codes "look2" ∷ codes "counter_down" ∷ codes "counter_show"
    ∷ codes "counter_set"
    ∷ codes "swap_saved" ∷ codes "counter_swap" ∷ codes "counter_add" ∷ codes "counter_sub"
    ∷ codes "noun"
    ∷ codes "noun_line" ∷ codes "newline" ∷ codes "swap_room" ∷ codes "pause" ∷ codes "picture" ∷ []

-- the other words of the language
abbrev pub other_words : List (List ℕ)
other_words =
    codes "header" ∷ codes "unused" ∷ codes "carry" ∷ codes "start" ∷ codes "treasures"
    ∷ codes "length" ∷ codes "light"
    ∷ codes "home" ∷ codes "words" ∷ codes "rooms" ∷ codes "room" ∷ codes "messages"
    ∷ codes "message" ∷ codes "items"
    ∷ codes "item" ∷ codes "lines" ∷ codes "line" ∷ codes "auto" ∷ codes "also" ∷ codes "trailer"
    ∷ codes "nowhere"
    ∷ codes "say" ∷ codes "op" ∷ []

-- the code of the condition with this word
abbrev pub condition_code : List ℕ → Option ℕ
condition_code word = among condition_words word

-- the number of an opcode by its number among the words
abbrev pub from_52 : Option ℕ → Option ℕ
from_52 (Some k) = Some (k + 52)
from_52 None = None

-- the number of the opcode with this word
abbrev pub opcode_number : List ℕ → Option ℕ
opcode_number word = from_52 (among opcode_words word)

-- the word of the condition with this code, 0..19
unfoldable pub condition_word : ℕ → List ℕ
condition_word code = slice_index_or condition_words code []

-- the word of the opcode with this number, 52..89
unfoldable pub opcode_word : ℕ → List ℕ
opcode_word n = slice_index_or opcode_words (n - 52) []

-- a word is a name unless it is one of the language
unfoldable pub is_name : List ℕ → Bool
is_name word =
    not (is_some (among other_words word)
    || (is_some (among condition_words word) || is_some (among opcode_words word)))
