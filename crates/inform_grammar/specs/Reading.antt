-- What a list of lexemes is read as by the grammar, one lexeme after another.
use Rattle.std.specs.Prelude.{ℕ, suc, Bool, true, if◌then◌else◌, nat_lt, List, [], ◌∷◌, ◌++◌, Option, Some, None, Result, Ok, Err}
use Rattle.inform_lexemes.specs.Lexemes.{Lexeme}
use Rattle.inform_grammar.specs.declared.limits.TheConstants.{OPENER_LIMIT}
use Rattle.inform_grammar.specs.Faults.{FaultKind, Unexpected, Mixed, TooDeep, Fault, fault}
use Rattle.inform_grammar.specs.Rules.{Rule, TreeOf}
use Rattle.inform_grammar.specs.Lexemes.{is_opener, is_closer, one_less}
use Rattle.inform_grammar.specs.Plan.{Plan, done, refuse, next, look, maybe, chain, shut, ◌>>=◌}
use Rattle.inform_grammar.specs.Rule.{rule}

-- ---- one lexeme

-- what a plan makes of the lexeme that stands next
pub data StepResult (X : Type 0) : Type 0 where
  stops : FaultKind → StepResult X  -- it can't stand there
  gives : X → ℕ → StepResult X  -- all was read before it, and so many are open
  goes : Plan X → ℕ → StepResult X  -- it is taken, by this plan; so many were open before it

-- the lexeme that stands next, if it passes the test
abbrev pub passed : (Lexeme → Bool) → Option Lexeme → Option Lexeme
passed test None = None
passed test (Some x) = if test x then Some x else None

-- what a rule reads after the lexeme that stands next, if it may begin with that
abbrev pub begun : (r : Rule) → Option Lexeme → Option (Plan (TreeOf r))
begun r None = None
begun r (Some x) = rule r x

abbrev pub either_way : {A B : Type 0} → Option A → (A → B) → B → B
either_way None f other = other
either_way (Some x) f other = f x

-- the lexeme that stands next, or none at the end, where so many are open
unfoldable pub step : {X : Type 0} → Option Lexeme → Plan X → ℕ → StepResult X
step t (done x) n = gives x n
step t refuse n = stops Unexpected
step t (next test k q) n = either_way (passed test t) (λ x. goes (k x) n) (step t q n)
step t (look test p q) n = either_way (passed test t) (λ _. step t p n) (step t q n)
step t (maybe r k q) n = either_way (begun r t) (λ p. goes (p >>= k) n) (step t q n)
step t (chain r test front k) n =
    either_way (begun r t) (λ p. goes (p >>= λ x. chain r test (front ++ x ∷ []) k) n)
    (either_way (passed test t) (λ _. stops Mixed) (step t (k front) n))
step t (shut p) n = step t p (one_less n)

-- ---- a list of lexemes

-- how many are open, and the lexemes that are left
pub record Input : Type 0 where
  pub opened : ℕ
  pub rest : List Lexeme

abbrev pub input : ℕ → List Lexeme → Input
input n xs = record { opened = n; rest = xs }

abbrev pub Answer : Type 0 → Type 0
Answer X = Result (X × Input) Fault

-- how many are open after a lexeme
abbrev pub opened_after : Lexeme → ℕ → ℕ
opened_after x n = if is_opener x then suc n else if is_closer x then one_less n else n

-- a lexeme that is taken: an opener only where there is room for one more
abbrev pub taken : {X : Type 0} → (ℕ → Bool) → Lexeme → List Lexeme → ℕ → (ℕ → Answer X) → Answer X
taken room x xs n go =
    if is_opener x then (if room n then go (suc n) else Err (fault TooDeep (x ∷ xs)))
    else go (opened_after x n)

abbrev pub at_end : {X : Type 0} → StepResult X → Answer X
at_end (stops kind) = Err (fault kind [])
at_end (gives x n) = Ok (x, input n [])
at_end (goes p n) = Err (fault Unexpected [])

abbrev pub at_lexeme : {X : Type 0} → (ℕ → Bool) → Lexeme → List Lexeme → StepResult X
    → (Plan X → ℕ → Answer X) → Answer X
at_lexeme room x xs (stops kind) go = Err (fault kind (x ∷ xs))
at_lexeme room x xs (gives v n) go = Ok (v, input n (x ∷ xs))
at_lexeme room x xs (goes p n) go = taken room x xs n (go p)

-- what is read by a plan where so many are open: a value and the input after it, or the first fault
unfoldable pub reads : {X : Type 0} → (ℕ → Bool) → List Lexeme → Plan X → ℕ → Answer X
reads room [] p n = at_end (step None p n)
reads room (x ∷ xs) p n = at_lexeme room x xs (step (Some x) p n) (reads room xs)

-- ---- how many are open

abbrev pub open_after : {X : Type 0} → StepResult X → (Plan X → ℕ → Option ℕ) → Option ℕ
open_after (goes p n) go = go p n
open_after _ go = None

-- how many are open before the last lexeme, where it and all those before it are taken by a plan
unfoldable pub open_before : {X : Type 0} → List Lexeme → Lexeme → Plan X → ℕ → Option ℕ
open_before [] last p n = open_after (step (Some last) p n) (λ q m. Some m)
open_before (x ∷ xs) last p n =
    open_after (step (Some x) p n) (λ q m. open_before xs last q (opened_after x m))

-- ---- a program

-- fewer than so many are open
abbrev pub within_limit : ℕ → Bool
within_limit n = nat_lt n OPENER_LIMIT

abbrev pub no_limit : ℕ → Bool
no_limit n = true
