-- The vocabulary of a game that is made.
use Rattle.std.specs.Prelude.{ℕ, ◌+◌, ◌/◌, ◌%◌, ◌==◌, List, [], ◌∷◌, slice_index_or, codes, if◌then◌else◌}
use Rattle.scott_types.specs.declared.parts.Word.{Word}
use Rattle.adv_gen.specs.Picks.{each}

-- the capital letter of a number, from 0 for A on
abbrev pub capital : ℕ → ℕ
capital k = 65 + k

-- a letter, and two more that count on from AA
abbrev pub numbered : ℕ → ℕ → List ℕ
numbered letter k = letter ∷ capital (k / 26) ∷ capital (k % 26) ∷ []

abbrev pub letter_v : ℕ
letter_v = 86

abbrev pub letter_x : ℕ
letter_x = 88

-- the verb of an entry; those without a meaning of their own begin with V
unfoldable pub verb : ℕ → List ℕ
verb k = if k == 0 then codes "AUT" else if k == 1 then codes "GO"
    else if k == 2 then codes "*RUN" else if k == 10 then codes "GET"
    else if k == 18 then codes "DROP" else numbered letter_v k

-- the first nouns
abbrev pub directions : List (List ℕ)
directions =
    codes "ANY" ∷ codes "NORTH" ∷ codes "SOUTH" ∷ codes "EAST" ∷ codes "WEST" ∷ codes "UP"
    ∷ codes "DOWN" ∷ []

-- the noun of an entry; those after the directions begin with X
unfoldable pub noun : ℕ → List ℕ
noun k = slice_index_or directions k (numbered letter_x k)

-- the noun of a thing: one of those after the directions
abbrev pub thing_noun : ℕ → ℕ → List ℕ
thing_noun size k = noun (7 + k % (size + 30))

abbrev pub word : ℕ → Word
word k = record { verb = verb k; noun = noun k }

abbrev pub words : ℕ → List Word
words size = each (size + 37) word
