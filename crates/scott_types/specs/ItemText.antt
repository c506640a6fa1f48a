-- What an item's text says: what is shown of it, the word that takes it, and whether it is a
-- treasure.
use Rattle.std.specs.Prelude.{ℕ, ◌==◌, Bool, false, List, [], ◌∷◌, if◌then◌else◌}
use Rattle.std.specs.List.{before_first, after_first}
use Rattle.adv_io.specs.Text.{star, slash}

-- a text that begins with `*`: a treasure, a room that needs no `I'm in a`, a synonym
abbrev pub is_starred : List ℕ → Bool
is_starred [] = false
is_starred (byte ∷ text) = byte == star

abbrev pub is_slash : ℕ → Bool
is_slash byte = byte == slash

-- what stands before the first `/`, or the whole text
abbrev pub shown : List ℕ → List ℕ
shown text = before_first is_slash text

-- what stands between the first `/` and the next one or the end
abbrev pub between_slashes : List ℕ → List ℕ
between_slashes text = before_first is_slash (after_first is_slash text)

-- the word by which the item is taken: empty for none, also where it begins with `*`
abbrev pub get_word : List ℕ → List ℕ
get_word text = if is_starred (between_slashes text) then [] else between_slashes text

abbrev pub is_treasure : List ℕ → Bool
is_treasure text = is_starred text
