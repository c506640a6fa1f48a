-- Names of files and numbers, as the command line writes them.
use Rattle.std.specs.Prelude.{ℕ, ◌^◌, Bool, ◌&&◌, nat_eq, nat_lt, List, [], ◌∷◌, length, drop, Option, Some, None, if◌then◌else◌}
use Rattle.std.specs.List.{starts_with, list_all}
use Rattle.std.specs.Char.{is_ascii_digit}
use Rattle.std.specs.Str.Parse.{digits_value}

-- the name of a file or of a routine has a byte
abbrev pub file_name : List ℕ → Option (List ℕ)
file_name [] = None
file_name (byte ∷ bytes) = Some (byte ∷ bytes)

-- what follows a prefix, where a text begins with it
abbrev pub after_prefix : List ℕ → List ℕ → Option (List ℕ)
after_prefix prefix text =
    if starts_with nat_eq text prefix then Some (drop (length prefix) text) else None

-- one digit or more, which write a number of 64 bits
abbrev pub is_number : List ℕ → Bool
is_number digits =
    list_all is_ascii_digit digits
    && (nat_lt 0 (length digits) && nat_lt (digits_value 10 digits) (2 ^ 64))

abbrev pub number_of : List ℕ → Option ℕ
number_of digits = if is_number digits then Some (digits_value 10 digits) else None
