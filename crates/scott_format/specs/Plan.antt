-- A format as data: what is read, one thing after another.
use Rattle.std.specs.Prelude.{ℕ, zero, suc, ◌≡◌, ◌+◌, Bool, if◌then◌else◌, IsTrue, ◌⊎◌, List, [], ◌∷◌, Option, Some, None, ℤ, Result, Ok, Err}
use Rattle.adv_text.specs.Spelling.{AfterWhitespace, Number, NoNumber, Quoted}
use Rattle.adv_text.specs.Reading.{Input, number_at, quoted_at, no_number, big_number, no_quote, open_string, long_string}
use Rattle.adv_text.specs.Reading.{Fault as TextFault}
use Rattle.scott_format.specs.Faults.{Fault, text}

pub data Plan (X : Type 0) : Type 0 where
  -- nothing more is read, and this is the value
  done : X → Plan X
  -- the test must hold, or this is the fault
  check : Bool → Fault → Plan X → Plan X
  -- a number, and what follows it
  number : (ℤ → Plan X) → Plan X
  -- a string, and what follows it
  quoted : (List ℕ → Plan X) → Plan X
  -- a number if one stands there, and what follows
  perhaps : (Option ℤ → Plan X) → Plan X

-- one plan, and then another that may depend on the first one's value
infixl 10 ◌>>=◌
abbrev pub ◌>>=◌ : {X Y : Type 0} → Plan X → (X → Plan Y) → Plan Y
(done x) >>= f = f x
(check test fault next) >>= f = check test fault (next >>= f)
(number next) >>= f = number (λ z. next z >>= f)
(quoted next) >>= f = quoted (λ t. next t >>= f)
(perhaps next) >>= f = perhaps (λ o. next o >>= f)

-- n things of one kind, numbered from k on
unfoldable pub many : {X : Type 0} → (ℕ → Plan X) → ℕ → ℕ → Plan (List X)
many piece k zero = done []
many piece k (suc n) = piece k >>= λ x. many piece (k + 1) n >>= λ xs. done (x ∷ xs)

-- ---- spelling

-- neither digits nor a sign with digits stand after the whitespace
abbrev pub NumberIsMissing : List ℕ → Type 0
NumberIsMissing bytes = (k : ℕ) × AfterWhitespace NoNumber k bytes

-- the bytes spell the value by the plan, and then the rest follows
abbrev pub Spelled : {X : Type 0} → Plan X → X → List ℕ → List ℕ → Type 0
Spelled (done x) value bytes rest = (x ≡ value) × (bytes ≡ rest)
Spelled (check test fault next) value bytes rest = IsTrue test × Spelled next value bytes rest
Spelled (number next) value bytes rest =
    (z : ℤ) × (remaining : List ℕ) × Number z bytes remaining
    × Spelled (next z) value remaining rest
Spelled (quoted next) value bytes rest =
    (t : List ℕ) × (remaining : List ℕ) × Quoted t bytes remaining
    × Spelled (next t) value remaining rest
Spelled (perhaps next) value bytes rest =
    ((z : ℤ) × (remaining : List ℕ) × Number z bytes remaining
    × Spelled (next (Some z)) value remaining rest)
    ⊎ (NumberIsMissing bytes × Spelled (next None) value bytes rest)

-- ---- reading

-- reading goes on after a number or a string that was read
abbrev pub onward : {A X : Type 0} → Result (A × Input) TextFault
    → (A → Input → Result (X × Input) Fault) → Result (X × Input) Fault
onward (Ok x) go_on = go_on x.0 x.1
onward (Err fault) go_on = Err (text fault)

-- reading goes on after a number, or where it stood if no number stands there
abbrev pub onward_perhaps : {X : Type 0} → Result (ℤ × Input) TextFault → Input
    → (Option ℤ → Input → Result (X × Input) Fault) → Result (X × Input) Fault
onward_perhaps (Ok x) s go_on = go_on (Some x.0) x.1
onward_perhaps (Err (no_number at)) s go_on = go_on None s
onward_perhaps (Err (big_number at)) s go_on = Err (text (big_number at))
onward_perhaps (Err (no_quote at)) s go_on = Err (text (no_quote at))
onward_perhaps (Err (open_string at)) s go_on = Err (text (open_string at))
onward_perhaps (Err (long_string at)) s go_on = Err (text (long_string at))

-- what the plan reads at an input: a value and the input after it, or the first fault
abbrev pub run : {X : Type 0} → Plan X → Input → Result (X × Input) Fault
run (done x) s = Ok (x, s)
run (check test fault next) s = if test then run next s else Err fault
run (number next) s = onward (number_at s) (λ z after. run (next z) after)
run (quoted next) s = onward (quoted_at s) (λ t after. run (next t) after)
run (perhaps next) s = onward_perhaps (number_at s) s (λ o after. run (next o) after)
