-- Which bytes are a name, a character or a text of a program, and which numbers it may have.
use Rattle.std.specs.Prelude.{ℕ, Bool, false, not, ◌&&◌, ◌||◌, ◌==◌, nat_le, nat_lt, nat_eq, List, [], ◌∷◌, length, map}
use Rattle.std.specs.List.{list_all, list_any}
use Rattle.std.specs.Cmp.Lexicographic.{pointwise}
use Rattle.inform_tree.specs.declared.words.TheConstants.{RESERVED, NAME_LIMIT, SPECIAL}

-- a letter in lower case or an underscore
abbrev pub begins_name : ℕ → Bool
begins_name byte = (nat_le 97 byte && nat_le byte 122) || byte == 95

-- such a byte or a digit
abbrev pub is_name_byte : ℕ → Bool
is_name_byte byte = begins_name byte || (nat_le 48 byte && nat_le byte 57)

-- whether a word is one of these
abbrev pub is_among : List ℕ → List (List ℕ) → Bool
is_among word words = list_any (pointwise nat_eq word) words

abbrev pub is_reserved : List ℕ → Bool
is_reserved word = is_among word (map (λ w. w.now) RESERVED)

-- at most 32 letters, digits and underscores, not a digit first, and no reserved word
abbrev pub is_name : List ℕ → Bool
is_name [] = false
is_name (byte ∷ bytes) =
    begins_name byte
    && (list_all is_name_byte bytes
    && (nat_lt (length bytes) NAME_LIMIT && not (is_reserved (byte ∷ bytes))))

-- a byte with a meaning of its own in a string or beside a character
abbrev pub is_special : ℕ → Bool
is_special byte = list_any (nat_eq byte) SPECIAL

-- any other printable byte
abbrev pub is_character : ℕ → Bool
is_character byte = nat_le 32 byte && (nat_le byte 126 && not (is_special byte))

-- a number of 32 bits
abbrev pub is_number : ℕ → Bool
is_number n = nat_le n 4294967295

abbrev pub is_byte : ℕ → Bool
is_byte n = nat_le n 255

-- any bytes are a text
abbrev pub is_text : List ℕ → Bool
is_text bytes = list_all is_byte bytes
