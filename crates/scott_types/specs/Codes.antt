-- Decoding and encoding undo one another.
use Rattle.std.specs.Prelude.{ℕ, ◌≡◌, ◌<◌, ◌==◌, ◌&&◌, nat_le, if◌then◌else◌}
use Rattle.scott_types.specs.declared.conditions.Condition.{Condition}
use Rattle.scott_types.specs.Condition.{condition_of, code_of}
use Rattle.scott_types.specs.Opcode.{opcode_of, number_of}

abbrev pub CodeOfCondition : Type 0
CodeOfCondition = (code : ℕ) → code < 20 → code_of (condition_of code) ≡ code

abbrev pub ConditionOfCode : Type 0
ConditionOfCode = (condition : Condition) → condition_of (code_of condition) ≡ condition

-- the least number that means the same: 55 and 59, 64 and 76, 70 and 88 share a meaning, and 90 to
-- 101 do nothing, as 0
abbrev pub first_number : ℕ → ℕ
first_number n = if n == 59 then 55 else if n == 76 then 64 else if n == 88 then 70 else
    if nat_le 90 n && nat_le n 101 then 0 else n

abbrev pub FirstNumberIsKept : Type 0
FirstNumberIsKept = (n : ℕ) → number_of (opcode_of n) ≡ first_number n

abbrev pub NumbersShareMeanings : Type 0
NumbersShareMeanings = (n : ℕ) → opcode_of (first_number n) ≡ opcode_of n
