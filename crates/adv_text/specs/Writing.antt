-- The text that is written of a number and of a string.
use Rattle.std.specs.Prelude.{ℕ, ◌==◌, Bool, if◌then◌else◌, List, [], ◌∷◌, ◌++◌, ℤ}
use Rattle.std.specs.List.{flat_map}
use Rattle.std.specs.Fmt.{signed_decimal}
use Rattle.adv_io.specs.Text.{quote}

-- decimal digits without leading zeros, after `-` where the number is negative
abbrev pub number_text : ℤ → List ℕ
number_text z = signed_decimal z

-- a quote is written twice
abbrev pub byte_text : ℕ → List ℕ
byte_text b = if b == quote then quote ∷ quote ∷ [] else b ∷ []

-- a text between quotes
abbrev pub quoted_text : List ℕ → List ℕ
quoted_text text = quote ∷ (flat_map byte_text text ++ quote ∷ [])
