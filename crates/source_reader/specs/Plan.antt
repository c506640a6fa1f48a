-- A grammar as data: what each token may be, given those before it.
use Rattle.std.specs.Prelude.{ℕ, ◌≡◌, ◌⊎◌, Result, Ok, Err}
use Rattle.adv_text.specs.Reading.{Input}
use Rattle.source_reader.specs.declared.tokens.Token.{Token}
use Rattle.source_reader.specs.declared.faults.SourceFault.{SourceFault}
use Rattle.source_reader.specs.Faults.{Fault, unexpected, Reads}
use Rattle.source_reader.specs.Tokens.{past_gap, TokenTo, TokenFault, token_at}

pub data Plan (X : Type 0) : Type 0 where
  -- nothing more is read, and this is the value
  done : X → Plan X
  -- the token at this place can't stand there
  refuse : ℕ → Plan X
  -- a token at its place, and what follows it
  next : (ℕ → Token → Plan X) → Plan X

-- one plan, and then another that may depend on the first one's value
infixl 10 ◌>>=◌
abbrev pub ◌>>=◌ : {X Y : Type 0} → Plan X → (X → Plan Y) → Plan Y
(done x) >>= f = f x
(refuse at) >>= f = refuse at
(next more) >>= f = next (λ at t. more at t >>= f)

-- one plan, and then another
infixl 10 ◌>>◌
abbrev pub ◌>>◌ : {Y : Type 0} → Plan (Unit {0}) → Plan Y → Plan Y
p >> q = p >>= λ _. q

-- ---- spelling

-- from an input to another, the bytes spell the value by the plan
abbrev pub Spelled : {X : Type 0} → Plan X → X → Input → Input → Type 0
Spelled (done x) value s after = (x ≡ value) × (s ≡ after)
Spelled (refuse at) value s after = ⊥
Spelled (next more) value s after =
    (t : Token) × (rest : Input) × TokenTo (past_gap s) t rest
    × Spelled (more (past_gap s).at t) value rest after

-- This is the first thing that is wrong with the bytes from an input on, by the plan: a token that
-- can't stand there, or none that is right; or the next token is right, and this is the first thing
-- that is wrong after it.
abbrev pub Faulty : {X : Type 0} → Plan X → Input → Fault → Type 0
Faulty (done x) s fault = ⊥
Faulty (refuse at) s fault = fault ≡ unexpected at
Faulty (next more) s fault =
    TokenFault (past_gap s) fault
    ⊎ ((t : Token) × (rest : Input) × TokenTo (past_gap s) t rest
    × Faulty (more (past_gap s).at t) rest fault)

-- ---- reading

-- reading goes on after a value that was read
abbrev pub onward : {A X : Type 0} → Result (A × Input) Fault
    → (A → Input → Result (X × Input) Fault)
    → Result (X × Input) Fault
onward (Ok x) go_on = go_on x.0 x.1
onward (Err fault) go_on = Err fault

-- what the plan reads at an input: a value and the input after it, or the first fault
abbrev pub run : {X : Type 0} → Plan X → Input → Result (X × Input) Fault
run (done x) s = Ok (x, s)
run (refuse at) s = Err (unexpected at)
run (next more) s = onward (token_at (past_gap s)) (λ t after. run (more (past_gap s).at t) after)

-- from an input to another, a function gives what the plan reads
abbrev pub Follows : {X : Type 0} → Plan X → Input → Result X SourceFault → Input → Type 0
Follows plan s r after = Reads (run plan s) r after
