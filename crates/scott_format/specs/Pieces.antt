-- A file that comes in pieces: what its first bytes tell.
use Rattle.std.specs.Prelude.{ℕ, not, ◌≡◌, ◌+◌, ◌-◌, ◌==◌, ◌||◌, nat_lt, Bool, true, false, List, [], ◌∷◌, ◌++◌, length, Result, Ok, Err, ℤ}
use Rattle.std.specs.Char.{is_ascii_digit}
use Rattle.adv_io.specs.Text.{quote}
use Rattle.adv_io.specs.Answers.{IsExactly}
use Rattle.adv_text.specs.Reading.{Input, input, with_more, SameEnd, no_number, no_quote}
use Rattle.scott_format.specs.declared.faults.FormatFault.{FormatFault}
use Rattle.scott_format.specs.declared.faults.FormatFault.TheVariants as answer
use Rattle.scott_format.specs.declared.stops.Due.{Due}
use Rattle.scott_format.specs.declared.stops.Due.TheVariants as due
use Rattle.scott_format.specs.declared.stops.Stop.{Stop}
use Rattle.scott_format.specs.declared.stops.Stop.TheVariants.{Cut}
use Rattle.scott_format.specs.declared.stops.Stop.TheVariants as stop
use Rattle.scott_types.specs.Database.{Database}
use Rattle.scott_format.specs.Faults.{Fault, text, limit, no_start, negative_action}
use Rattle.scott_format.specs.Plan.{Plan, done, check, number, quoted, perhaps, ◌>>=◌, many, run}
use Rattle.scott_format.specs.Reading.{fault_of, Stands}

-- ---- faults that stay

-- the last byte, or the given one where there is none
abbrev pub last_or : ℕ → List ℕ → ℕ
last_or b [] = b
last_or b (c ∷ bytes) = last_or c bytes

-- a number or a string may end with this byte
abbrev pub may_end : ℕ → Bool
may_end b = is_ascii_digit b || b == quote

-- a number or a string may end with the last of the bytes
abbrev pub ends_value : List ℕ → Bool
ends_value bytes = may_end (last_or quote bytes)

-- The fault of what stands at an input is the same whatever follows. A sign at the end may get a
-- digit, and a number at the end another digit.
abbrev pub settles : FormatFault → Input → Bool
settles (answer.NoNumber at) s = nat_lt (at + 1) (s.at + length s.rest)
settles (answer.BigNumber at) s = true
settles (answer.NoQuote at) s = nat_lt at (s.at + length s.rest)
settles (answer.OpenString at) s = false
settles (answer.LongString at) s = true
settles (answer.Limit field value) s = not (ends_value s.rest)
settles (answer.NoStart value) s = not (ends_value s.rest)
settles (answer.NegativeAction k) s = not (ends_value s.rest)
settles answer.Memory s = true

-- the fault where the bytes end and this is due
abbrev pub missing : Due → ℕ → Fault
missing due.Number at = text (no_number at)
missing due.Text at = text (no_quote at)

-- a fault of the program is the one that the plan reaches, and memory didn't run out
abbrev pub IsFaultOf : {X : Type 0} → FormatFault → Result X Fault → Type 0
IsFaultOf fault read = IsExactly fault_of fault read

-- a fault of what a number says, and not of how it is spelled
abbrev pub IsContent : Fault → Type 0
IsContent (text own) = ⊥
IsContent (limit field value) = Unit {0}
IsContent (no_start value) = Unit {0}
IsContent (negative_action k) = Unit {0}

-- each number that a plan reads must be there
abbrev pub IsSteady : {X : Type 0} → Plan X → Type 0
IsSteady (done x) = Unit {0}
IsSteady (check test fault next) = IsContent fault × IsSteady next
IsSteady (number next) = (z : ℤ) → IsSteady (next z)
IsSteady (quoted next) = (t : List ℕ) → IsSteady (next t)
IsSteady (perhaps next) = ⊥

-- ---- reading on

-- the fault of a file that ends where reading stopped
abbrev pub fault_at : Stop → FormatFault
fault_at (Cut fault) = fault
fault_at (stop.Fault fault) = fault

-- whatever follows, one plan reads from an input what another reads from a later one
pub record Moves {X : Type 0} (p : Plan X) (s : Input) (q : Plan X) (after : Input) : Type 0 where
  pub ends : SameEnd s after
  pub reads : (more : List ℕ) → run p (with_more s more) ≡ run q (with_more after more)

-- a function goes on from a plan and an input to others, unless it stops with a fault that stays;
-- where the bytes end too early, it tells the fault of a file that ends there too
abbrev pub Advances : {T X : Type 0} → Plan X → Input → Result T Stop → Plan X → Input → Type 0
Advances p s (Ok given) q after = Moves p s q after
Advances p s (Err (Cut fault)) q after = Moves p s q after × IsFaultOf fault (run q after)
Advances p s (Err (stop.Fault fault)) q after =
    (more : List ℕ) → Stands fault (run p (with_more s more))

-- a stop where nothing was taken
abbrev pub StopsAt : {X : Type 0} → Plan X → Input → Stop → Input → Type 0
StopsAt p s (Cut fault) after = (after ≡ s) × IsFaultOf fault (run p s)
StopsAt p s (stop.Fault fault) after = (more : List ℕ) → Stands fault (run p (with_more s more))

-- where the bytes end before what a plan reads next, it is due
abbrev pub IsDue : {X : Type 0} → Due → Plan X → Type 0
IsDue what p = (at : ℕ) → run p (input at []) ≡ Err (missing what at)

-- a value is taken from an input to another, whatever follows; or the bytes end too early, for it
-- or for what is due after it
abbrev pub Takes : {X : Type 0} → Plan X → Due → Input → Result X Stop → Input → Type 0
Takes p then s (Ok x) after =
    SameEnd s after
    × ((more : List ℕ) → run p (with_more s more) ≡ Ok (x, with_more after more))
Takes {X = X} p then s (Err (Cut fault)) after =
    (after ≡ s)
    × ((go_on : X → Plan Database) → ((x : X) → IsDue then (go_on x))
    → IsFaultOf fault (run (p >>= go_on) s))
Takes p then s (Err (stop.Fault fault)) after =
    (more : List ℕ) → Stands fault (run p (with_more s more))

-- n entries of one kind, of which these are read
abbrev pub list_from : {X : Type 0} → (ℕ → Plan X) → ℕ → List X → Plan (List X)
list_from piece n entries =
    many piece (length entries) (n - length entries) >>= λ rest. done (entries ++ rest)

-- and then what follows the list
abbrev pub list_then : {X : Type 0} → (ℕ → Plan X) → ℕ → List X → (List X → Plan Database)
    → Plan Database
list_then piece n entries go_on = list_from piece n entries >>= go_on
