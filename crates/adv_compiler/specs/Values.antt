-- The numbers of a source: what names stand for, and the ranges.
use Rattle.std.specs.Prelude.{ℕ, ◌+◌, ◌*◌, ◌&&◌, nat_le, nat_lt, ℤ, pos, int_le, unsigned_abs, if◌then◌else◌, List, Option, Some, None, Result, Ok, Err}
use Rattle.std.specs.Option.{option_or}
use Rattle.source_reader.specs.declared.tree.Ref.{Ref}
use Rattle.source_reader.specs.declared.tree.Ref.TheVariants as ref
use Rattle.source_reader.specs.declared.tree.Vocab.{Vocab}
use Rattle.source_reader.specs.declared.tree.Vocab.TheVariants as vocab
use Rattle.adv_compiler.specs.Faults.{Fault, unnamed, limit, ◌>>=◌}
use Rattle.adv_compiler.specs.Known.{Known}

-- ---- names

-- a name at this place stands for what it is found as
abbrev pub found : Option ℤ → ℕ → Result ℤ Fault
found (Some z) at = Ok z
found None at = Err (unnamed at)

-- a number, or what a name stands for
abbrev pub value_of : (List ℕ → Option ℤ) → ℕ → Ref → Result ℤ Fault
value_of find at (ref.Number z) = Ok z
value_of find at (ref.Name name) = found (find name) at

-- a number, or the least entry of the vocabulary with this text
abbrev pub vocab_of : (List ℕ → Option ℤ) → ℕ → Vocab → Result ℤ Fault
vocab_of find at (vocab.Number z) = Ok z
vocab_of find at (vocab.Exact text) = found (find text) at

-- an item of a name, or else a room
abbrev pub thing : Known → List ℕ → Option ℤ
thing known name = option_or (known.items name) (known.rooms name)

-- ---- ranges

abbrev pub in_range : ℕ → ℤ → ℤ → ℤ → Result ℤ Fault
in_range at least most z = if int_le least z && int_le z most then Ok z else Err (limit at z)

-- a number that isn't negative
abbrev pub natural : ℕ → ℤ → Result ℕ Fault
natural at z = if int_le (pos 0) z then Ok (unsigned_abs z) else Err (limit at z)

-- the number of one of so many entries
abbrev pub entry_number : ℕ → ℕ → ℤ → Result ℤ Fault
entry_number at count z =
    if int_le (pos 0) z && nat_lt (unsigned_abs z) count then Ok z else Err (limit at z)

-- ---- packed numbers, at most 2147483647

-- 150 times the first of two
abbrev pub first_of_two : ℕ → ℤ → ℕ → Result ℕ Fault
first_of_two at written n =
    if nat_le (150 * n) 2147483647 then Ok (150 * n) else Err (limit at written)

-- and the second added, which is at most 149
abbrev pub second_of_two : ℕ → ℤ → ℕ → ℕ → Result ℕ Fault
second_of_two at written first n =
    if nat_le n 149 && nat_le (first + n) 2147483647 then Ok (first + n) else Err (limit at written)

-- 20 times an argument, and a condition's code
abbrev pub packed_condition : ℕ → ℕ → ℤ → Result ℕ Fault
packed_condition at code z =
    natural at z >>= λ n. if nat_le (20 * n + code) 2147483647 then Ok (20 * n + code)
    else Err (limit at z)
