-- How many steps the parts of a command may take.
use Rattle.std.proofs.Common.{◌≡◌, arith, ℕ, ◌+◌, ◌*◌, ◌≤◌, length, subst}
use Rattle.std.proofs.Math.Nat.{mul-le-mul_left}
use Rattle.scott_types.specs.Database.{Database}
use Rattle.trans_specs.specs.Steps.{highest, share, text_steps}
use Rattle.trans_specs.specs.CommandSpecs.{search_steps, command_steps}

-- one of all items at its turn, with the turn; all turns; and all items
abbrev pub next_steps : Database → ℕ
next_steps db = search_steps db + 2 * text_steps db + 25

abbrev pub item_steps : Database → ℕ
item_steps db = search_steps db + 2 * text_steps db + 45

abbrev pub turns_steps : Database → ℕ
turns_steps db = length db.items * item_steps db + 1

abbrev pub all_steps : Database → ℕ
all_steps db = turns_steps db + text_steps db + 15

-- one item
abbrev pub one_steps : Database → ℕ
one_steps db = text_steps db + 8 * length db.items + 30

-- one item or all, and what a verb does
abbrev pub transfer_steps : Database → ℕ
transfer_steps db = all_steps db + one_steps db + 20

abbrev pub obey_steps : Database → ℕ
obey_steps db = search_steps db + transfer_steps db + 20

-- a walk
abbrev pub walk_steps : Database → ℕ
walk_steps db = 2 * text_steps db + 20

-- ---- the whole

-- for so many items beside the first one
all_fit : (i x s : ℕ) → 200 ≤ s → 2 * s ≤ x
    → (i + 1) * (110 * x + 2 * (15 * s) + 45) + 110 * x + 4 * (15 * s) + 8 * (i + 1) + 200
    ≤ 300 * ((i + 2) * x)
all_fit i x s many more = omega (
  arith,
  many,
  more,
  mul-le-mul_left (i + 1) each,
  mul-le-mul_left (i + 1) eight,
) where
  each : 110 * x + 2 * (15 * s) + 45 ≤ 126 * x
  each = omega (arith, many, more)

  eight : 8 ≤ x
  eight = omega (arith, many, more)

-- a command, a walk and a search, for so many actions, items and words
abbrev total : ℕ → ℕ → ℕ → ℕ
total a n s =
    let search = (a + 2) * (110 * s) in
    let all = n * (search + 2 * (15 * s) + 45) + 1 + 15 * s + 15 in
    search + (all + (15 * s + 8 * n + 30) + 20) + 20 + (2 * (15 * s) + 20) + 30

total_fits : (a i s : ℕ) → 200 ≤ s → total a (i + 1) s ≤ 300 * ((a + 2) * (i + 2) * s)
total_fits a i s many = omega (arith, many, all_fit i ((a + 2) * s) s many (omega arith))

pub command_fits : (db : Database) → 1 ≤ length db.items
    → obey_steps db + walk_steps db + 30 ≤ command_steps db
command_fits db some = subst (λ n. total (highest db.actions) n (share db) ≤ command_steps db) all
    (total_fits (highest db.actions) (highest db.items) (share db) (omega arith)) where
      all : highest db.items + 1 ≡ length db.items
      all = omega (arith, some)
