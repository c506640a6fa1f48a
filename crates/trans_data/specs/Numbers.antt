-- The numbers of a database that its routines compare with.
use Rattle.std.specs.Prelude.{ℕ, ◌&&◌, nat_le, nat_lt, ℤ, pos, negsuc, unsigned_abs, if◌then◌else◌, List, [], ◌∷◌, length}
use Rattle.std.specs.Ordering.{int_eq}
use Rattle.scott_types.specs.Database.{Database}

-- a number that a place or a count of items may be is itself; 256 stands for any other
abbrev pub byte_or_more : ℤ → ℕ
byte_or_more (pos n) = if nat_le n 255 then n else 256
byte_or_more (negsuc n) = 256

-- By what the hundredths of the stored treasures are divided, sign aside. Where there are none to
-- store, or more than a word holds, it is a number that leaves no hundredth of any count.
abbrev pub divisor : ℤ → ℕ
divisor treasures =
    let size = unsigned_abs treasures in
    if nat_lt 0 size && nat_lt size 32768 then size else 32767

-- how many stored treasures are all of them; no count is 256
abbrev pub goal : ℤ → ℕ
goal treasures = if int_eq treasures (pos 0) then 256 else byte_or_more treasures

-- how many items there are, the most that can be carried, the place where treasures are stored, and
-- the two of the score
unfoldable pub numbers : Database → List ℕ
numbers db = length db.items ∷ byte_or_more db.header.carry ∷ byte_or_more db.header.home
    ∷ divisor db.header.treasures ∷ goal db.header.treasures ∷ []
