-- The number of a short name. Two names are the same where they have one number that isn't 0.
use Rattle.std.specs.Prelude.{ℕ, ◌+◌, ◌*◌, ◌&&◌, nat_lt, if◌then◌else◌, List, [], ◌∷◌}

-- a byte, as the lowest digit of 128, before what this number tells; 0 where there is no room
abbrev pub with_byte : ℕ → ℕ → ℕ
with_byte byte number =
    if nat_lt byte 128 && (nat_lt 0 number && nat_lt number 144115188075855872)
    then byte + 128 * number else 0

-- bytes before what this number tells
abbrev pub with_bytes : List ℕ → ℕ → ℕ
with_bytes [] number = number
with_bytes (byte ∷ bytes) number = with_byte byte (with_bytes bytes number)

-- the number of a name; 0 where the name has more or other bytes than a number tells
abbrev pub name_number : List ℕ → ℕ
name_number bytes = with_bytes bytes 1
