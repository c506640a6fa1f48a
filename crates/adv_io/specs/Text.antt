-- Bytes of a text by their names, and what every reader and writer says of them.
use Rattle.std.specs.Prelude.{ℕ, ◌==◌, ◌||◌, ◌&&◌, Bool, not, nat_le, List, [], ◌∷◌, ◌++◌, length}
use Rattle.std.specs.List.{list_all, flat_map}

-- ---- bytes

abbrev pub newline : ℕ
newline = 10

abbrev pub carriage_return : ℕ
carriage_return = 13

abbrev pub space : ℕ
space = 32

abbrev pub quote : ℕ
quote = 34

abbrev pub star : ℕ
star = 42

abbrev pub plus_sign : ℕ
plus_sign = 43

abbrev pub minus_sign : ℕ
minus_sign = 45

abbrev pub slash : ℕ
slash = 47

abbrev pub grave_accent : ℕ
grave_accent = 96

-- tab, line feed, vertical tab, form feed, return and space
abbrev pub is_whitespace : ℕ → Bool
is_whitespace b = (nat_le 9 b && nat_le b 13) || b == space

-- ---- texts that a database holds

-- the most bytes of such a text
abbrev pub text_limit : ℕ
text_limit = 4096

-- neither a return nor a grave accent, which no string of a file can give
abbrev pub is_text_byte : ℕ → Bool
is_text_byte b = not (b == carriage_return || b == grave_accent)

-- at most so many of these bytes
abbrev pub is_text : List ℕ → Bool
is_text text = nat_le (length text) text_limit && list_all is_text_byte text

-- ---- texts one after the other

-- with a separator between them
abbrev pub joined : List ℕ → List (List ℕ) → List ℕ
joined separator [] = []
joined separator (text ∷ texts) = text ++ flat_map (λ other. separator ++ other) texts

-- or another text where there are none
abbrev pub joined_or : List ℕ → List ℕ → List (List ℕ) → List ℕ
joined_or none separator [] = none
joined_or none separator (text ∷ texts) = joined separator (text ∷ texts)
