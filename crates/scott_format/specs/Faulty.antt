-- How bytes go wrong by a plan.
use Rattle.std.specs.Prelude.{ℕ, ◌≡◌, false, IsTrue, ◌⊎◌, List, Some, None, ℤ}
use Rattle.adv_text.specs.Spelling.{Number, Quoted}
use Rattle.adv_text.specs.Reading.{Input, SameEnd, big_number}
use Rattle.adv_text.specs.Reading.{Fault as TextFault}
use Rattle.adv_text.specs.Laws.{NumberFault, StringFault}
use Rattle.scott_format.specs.Faults.{Fault, text}
use Rattle.scott_format.specs.Plan.{Plan, done, check, number, quoted, perhaps, NumberIsMissing}

-- a number is spelled from an input to another
abbrev pub NumberTo : Input → ℤ → Input → Type 0
NumberTo s z after = Number z s.rest after.rest × SameEnd s after

abbrev pub StringTo : Input → List ℕ → Input → Type 0
StringTo s t after = Quoted t s.rest after.rest × SameEnd s after

-- This is the first thing that is wrong with the bytes from an input on, by the plan: a test that
-- doesn't hold, or a number or a string that isn't there or isn't right; or all is right with the
-- next thing, and this is the first that is wrong after it.
abbrev pub Faulty : {X : Type 0} → Plan X → Input → Fault → Type 0
Faulty (done x) s fault = ⊥
Faulty (check test own next) s fault =
    ((test ≡ false) × (fault ≡ own)) ⊎ (IsTrue test × Faulty next s fault)
Faulty (number next) s fault =
    ((own : TextFault) × NumberFault s own × (fault ≡ text own))
    ⊎ ((z : ℤ) × (after : Input) × NumberTo s z after × Faulty (next z) after fault)
Faulty (quoted next) s fault =
    ((own : TextFault) × StringFault s own × (fault ≡ text own))
    ⊎ ((t : List ℕ) × (after : Input) × StringTo s t after × Faulty (next t) after fault)
Faulty (perhaps next) s fault =
    ((place : ℕ) × NumberFault s (big_number place) × (fault ≡ text (big_number place)))
    ⊎ ((z : ℤ) × (after : Input) × NumberTo s z after × Faulty (next (Some z)) after fault)
    ⊎ (NumberIsMissing s.rest × Faulty (next None) s fault)
