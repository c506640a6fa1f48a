-- What follows of the warnings.
use Rattle.std.specs.Prelude.{ℕ, ◌≡◌, ◌<◌, ◌↔◌, List, [], length, take, drop, slice_index, slice_index_or, None, All}
use Rattle.std.specs.List.{sum_by}
use Rattle.scott_types.specs.Database.{Database}
use Rattle.scott_types.specs.Opcode.{opcode_of, uses}
use Rattle.adv_check.specs.Faults.{opcode_fault, opcode_faults}
use Rattle.adv_check.specs.Sites.{sites, warnings}

-- how many parameters the opcodes of these numbers take together
abbrev pub taken_by : List ℕ → ℕ
taken_by numbers = sum_by (λ n. uses (opcode_of n)) numbers

-- an opcode is held to the parameters after those that the opcodes before it take
abbrev pub EachOpcodeTakesItsOwn : Type 0
EachOpcodeTakesItsOwn = (db : Database) (numbers left : List ℕ) (j : ℕ) → j < length numbers
    → slice_index_or (opcode_faults db numbers left) j None
    ≡ opcode_fault db (slice_index numbers j) (drop (taken_by (take j numbers)) left)

-- nothing is wrong at any place of the database
abbrev pub IsFaultless : Database → Type 0
IsFaultless db = All (λ site. site.fault ≡ None) (sites db)

-- there are no warnings exactly where nothing is wrong
abbrev pub NoWarningsWhereFaultless : Type 0
NoWarningsWhereFaultless = (db : Database) → (warnings db ≡ []) ↔ IsFaultless db
