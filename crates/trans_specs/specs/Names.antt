-- The routines of a translated game whose names end in a number, and what a run notes of them.
use Rattle.std.specs.Prelude.{ℕ, nat_eq, if◌then◌else◌, List, ◌++◌, drop, length, codes, decimal, bytes_eq, Option, Some, None}
use Rattle.std.specs.List.{starts_with}
use Rattle.std.specs.Str.Parse.{digits_value}

abbrev pub message_name : ℕ → List ℕ
message_name m = codes "msg_" ++ decimal m

abbrev pub condition_name : ℕ → List ℕ
condition_name code = codes "cond_" ++ decimal code

abbrev pub opcode_name : ℕ → List ℕ
opcode_name n = codes "op_" ++ decimal n

abbrev pub group_name : ℕ → List ℕ
group_name head = codes "group_" ++ decimal head

abbrev pub line_name : ℕ → List ℕ
line_name k = codes "line_" ++ decimal k

-- ---- the lines of a run

-- the number that digits say, where they are just how it is written
abbrev pub number_said : List ℕ → Option ℕ
number_said digits =
    let n = digits_value 10 digits in
    if bytes_eq digits (decimal n) then Some n else None

-- the number of a line by the name of its routine
abbrev pub line_number : List ℕ → Option ℕ
line_number name =
    if starts_with nat_eq name (codes "line_") then number_said (drop (length (codes "line_")) name)
    else None

-- each line is noted by its number where its routine is entered, and no other routine is
abbrev pub line_notes : List ℕ → ℕ → Option ℕ
line_notes name directive = line_number name
