-- A typed word as far as it counts.
use Rattle.std.specs.Prelude.{◌≡◌, ℕ, List, take}
use Rattle.std.specs.Str.{str_to_ascii_lowercase}

-- the bytes of a word that count, in lower case
abbrev pub letters : ℕ → List ℕ → List ℕ
letters size word = str_to_ascii_lowercase (take size word)

-- how many bytes count, and those of the word, in lower case
pub record Key : Type 0 where
  pub size : ℕ
  pub lower : List ℕ

abbrev pub IsKeyOf : Key → List ℕ → Type 0
IsKeyOf key typed = key.lower ≡ letters key.size typed
