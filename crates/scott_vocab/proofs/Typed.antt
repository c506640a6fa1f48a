-- Whether a word of the database is typed, by the bytes that count.
use Rattle.std.proofs.Common.{◌≡◌, ◌∙◌, ℕ, List, [], ◌∷◌, length, take, Bool, false, refl}
use Rattle.std.specs.Bool.{◌==◌}
use Rattle.std.specs.Str.{bytes_eq, str_to_ascii_lowercase}
use Rattle.scott_rules.specs.Words.{is_typed}
use Rattle.scott_vocab.specs.Keys.{letters}

-- a word that isn't empty is typed where its bytes that count are those of the key
pub typed_by_key : (size : ℕ) (word typed counting lower : List ℕ) (r : Bool) → false ≡ (length word == 0) → counting ≡ take size word → lower ≡ letters size typed
    → r ≡ bytes_eq (str_to_ascii_lowercase counting) lower → r ≡ is_typed size word typed
typed_by_key size [] typed counting lower r filled first key is = cc
typed_by_key size (b ∷ word) typed counting lower r filled first key is = is ∙ rw (first, key) refl
