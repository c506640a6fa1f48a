-- An index of numbers by the letters of words.
use Rattle.std.specs.Prelude.{ℕ, List, Option, nat_eq}
use Rattle.std.specs.Cmp.Lexicographic.{pointwise}
use Rattle.std.specs.Map.{lookup}
use Rattle.arrayvec.specs.ArrayVec.{ArrayVec}
use Rattle.scott_vocab.specs.Keys.{letters}

-- how many bytes of a word count, and for the letters of each word its number
pub record WordIndex : Type 0 where
  pub size : ℕ
  pub entries : List (ArrayVec ℕ × ℕ)

-- what an index has for a word
abbrev pub found_in : WordIndex → List ℕ → Option ℕ
found_in index word =
    lookup (λ key. pointwise nat_eq (letters index.size word) key.items) index.entries
