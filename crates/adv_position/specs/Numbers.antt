-- What the numbers of a position stand for.
use Rattle.std.specs.Prelude.{ℕ, ◌==◌, ◌&&◌, int_le, Bool, true, false, ℤ, pos, negsuc}

-- a number that isn't negative
abbrev pub amount : ℤ → ℕ
amount (pos n) = n
amount (negsuc n) = 0

-- 1 for true, and 0 for false
abbrev pub bit : Bool → ℤ
bit true = pos 1
bit false = pos 0

abbrev pub is_one : ℤ → Bool
is_one z = amount z == 1

-- ---- which numbers a value of the program can have

-- from the least to the most
abbrev pub is_within : ℤ → ℤ → ℤ → Bool
is_within least most z = int_le least z && int_le z most

abbrev pub is_byte_number : ℤ → Bool
is_byte_number z = is_within (pos 0) (pos 255) z

abbrev pub is_line_number : ℤ → Bool
is_line_number z = is_within (pos 0) (pos 65535) z

abbrev pub is_natural : ℤ → Bool
is_natural z = int_le (pos 0) z

abbrev pub is_short : ℤ → Bool
is_short z = is_within (negsuc 32767) (pos 32767) z

abbrev pub is_any : ℤ → Bool
is_any z = true
