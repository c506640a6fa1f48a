-- The number that digits are.
use Rattle.std.specs.Prelude.{ℕ, if◌then◌else◌, List, Option, Some, None}
use Rattle.std.specs.Str.Parse.{digits_value}
use Rattle.inform_tree.specs.Words.{is_number}

-- a number that fits a program, or none
abbrev pub fitting : ℕ → Option ℕ
fitting n = if is_number n then Some n else None

-- the number that these digits are in this base, where it fits
abbrev pub number_in : ℕ → List ℕ → Option ℕ
number_in base digits = fitting (digits_value base digits)
