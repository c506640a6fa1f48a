-- Steps one after another, and how many there are at most.
use Rattle.std.proofs.Common.{◌≡◌, ◌∙◌, arith, ℕ, zero, suc, ◌+◌, ◌-◌, ◌≤◌, ℤ, Bool, true, false, List, refl, sym, ap, subst}
use Rattle.inform_meaning.specs.Worlds.{Config, Scope}
use Rattle.inform_meaning.specs.Frames.{Frame, Outcome, Value, Truth, Normal, Meaning, bind, when}
use Rattle.inform_meaning.specs.Parts.{tick, saying}
use Rattle.inform_logic.specs.Stages.{plus, Stage, in_scope, said}
use Rattle.inform_logic.specs.Leading.{Leaves, Takes}

-- ---- counting steps

-- three numbers of steps
pub plus-assoc : (a b k : ℕ) → plus (plus a b) k ≡ plus a (plus b k)
plus-assoc zero b k = refl
plus-assoc (suc a) b k = ap suc (plus-assoc a b k)

-- the sum that computes is the sum
pub plus_is : (a b : ℕ) → plus a b ≡ a + b
plus_is zero b = omega arith
plus_is (suc a) b = omega (arith, plus_is a b)

-- the bounds of two parts
pub few_of_two : {a b n m : ℕ} → a ≤ n → b ≤ m → plus a b ≤ n + m
few_of_two {a} {b} few less = omega (arith, few, less, plus_is a b)

-- what holds where so many calls and any more may be open holds where at least so many may
pub with_room : (calls : ℕ) (P : ℕ → Type 0) → ((d : ℕ) → P (plus calls d)) → (n : ℕ) → calls ≤ n
    → P n
with_room calls P h n enough =
    let all : plus calls (n - calls) ≡ n = omega (arith, plus_is calls (n - calls), enough) in
    subst P all (h (n - calls))

-- ---- one meaning after another

-- no step is taken
pub nothing_taken : {m : Meaning} {s s' : Scope} {w w' : Stage} {e : Outcome}
    → ((k : ℕ) → m (in_scope k s w) ≡ (e, in_scope k s' w')) → Takes m s w e s' w' 0
nothing_taken by = record { steps = 0; few = omega arith; by = λ k leaves. by k }

-- a part after which any steps may be left, and what is done with its outcome
pub and_then : {m : Meaning} (k : Outcome → Meaning) {s s1 s' : Scope} {w w1 w' : Stage}
    {e1 e : Outcome} {a b : ℕ} → ((j : ℕ) → Leaves e1 j) → Takes m s w e1 s1 w1 a
    → Takes (k e1) s1 w1 e s' w' b → Takes (bind m k) s w e s' w' (a + b)
unfolding bind
and_then {m} k {s} {w = w} any x y = record {
  steps = plus x.steps y.steps;
  few = few_of_two x.few y.few;
  by = λ j leaves. ap (λ i. bind m k (in_scope i s w)) (plus-assoc x.steps y.steps j)
      ∙ ap (λ r. k r.0 r.1) (x.by (plus y.steps j) (any (plus y.steps j))) ∙ y.by j leaves;
}

-- a part, and then what takes no step
pub finally : {m : Meaning} (k : Outcome → Meaning) {s s1 s' : Scope} {w w1 w' : Stage}
    {e1 e : Outcome} {n : ℕ} → ((j : ℕ) → Leaves e j → Leaves e1 j) → Takes m s w e1 s1 w1 n
    → ((j : ℕ) → k e1 (in_scope j s1 w1) ≡ (e, in_scope j s' w')) → Takes (bind m k) s w e s' w' n
unfolding bind
finally k any x h = record {
  steps = x.steps;
  few = x.few;
  by = λ j leaves. ap (λ r. k r.0 r.1) (x.by j (any j leaves)) ∙ h j;
}

-- the same after a value, a truth value and the end of a statement
pub value_then : {m : Meaning} (k : Outcome → Meaning) {s s1 s' : Scope} {w w1 w' : Stage} {v : ℤ}
    {e : Outcome} {a b : ℕ} → Takes m s w (Value v) s1 w1 a → Takes (k (Value v)) s1 w1 e s' w' b
    → Takes (bind m k) s w e s' w' (a + b)
value_then k = and_then k (λ j. tt)

pub truth_then : {m : Meaning} (k : Outcome → Meaning) {s s1 s' : Scope} {w w1 w' : Stage}
    {t : Bool} {e : Outcome} {a b : ℕ} → Takes m s w (Truth t) s1 w1 a
    → Takes (k (Truth t)) s1 w1 e s' w' b → Takes (bind m k) s w e s' w' (a + b)
truth_then k = and_then k (λ j. tt)

pub normal_then : {m : Meaning} (k : Outcome → Meaning) {s s1 s' : Scope} {w w1 w' : Stage}
    {e : Outcome} {a b : ℕ} → Takes m s w Normal s1 w1 a → Takes (k Normal) s1 w1 e s' w' b
    → Takes (bind m k) s w e s' w' (a + b)
normal_then k = and_then k (λ j. tt)

-- a step, and then the rest
pub one_step : (f : Frame) {m : Meaning} {s s' : Scope} {w w' : Stage} {e : Outcome} {n : ℕ}
    → Takes m s w e s' w' n → Takes (tick f m) s w e s' w' (n + 1)
unfolding tick
one_step f x = record { steps = suc x.steps; few = omega (arith, x.few); by = x.by }

-- the same meaning by another name
pub takes_same : {m m' : Meaning} {s s' : Scope} {w w' : Stage} {e : Outcome} {n : ℕ}
    → ((c : Config) → m c ≡ m' c) → Takes m' s w e s' w' n → Takes m s w e s' w' n
takes_same {s = s} {w = w} same x = record {
  steps = x.steps;
  few = x.few;
  by = λ k leaves. same (in_scope (plus x.steps k) s w) ∙ x.by k leaves;
}

-- fewer steps than a greater bound
pub takes_within : {m : Meaning} {s s' : Scope} {w w' : Stage} {e : Outcome} {n most : ℕ}
    → n ≤ most → Takes m s w e s' w' n → Takes m s w e s' w' most
takes_within enough x = record { steps = x.steps; few = omega (arith, x.few, enough); by = x.by }

-- bytes are said, and then the rest
pub with_said : (bytes : List ℕ) {m : Meaning} {s s' : Scope} {w w' : Stage} {e : Outcome} {n : ℕ}
    → Takes m s (said bytes w) e s' w' n → Takes (saying bytes m) s w e s' w' n
unfolding saying
with_said bytes x = record { steps = x.steps; few = x.few; by = x.by }

-- ---- one of two meanings

pub chosen : {b : Bool} {m : Meaning} (m' : Meaning) {s s' : Scope} {w w' : Stage} {e : Outcome}
    {n : ℕ} → b ≡ true → Takes m s w e s' w' n → Takes (when b m m') s w e s' w' n
unfolding when
chosen {m = m} m' {s} {s'} {w} {w'} {e} {n} h x =
    subst (λ b. Takes (when b m m') s w e s' w' n) (sym h) x

pub not_chosen : {b : Bool} (m : Meaning) {m' : Meaning} {s s' : Scope} {w w' : Stage}
    {e : Outcome} {n : ℕ} → b ≡ false → Takes m' s w e s' w' n → Takes (when b m m') s w e s' w' n
unfolding when
not_chosen m {m'} {s} {s'} {w} {w'} {e} {n} h x =
    subst (λ b. Takes (when b m m') s w e s' w' n) (sym h) x
