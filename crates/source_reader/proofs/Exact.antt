-- A plan reads exactly what it spells, and answers exactly the fault that stands.
use Rattle.std.proofs.Common.{◌≡◌, ◌⊎◌, inl, inr, Result, Ok, Err, refl, sym, ap, ◌∙◌}
use Rattle.adv_text.specs.Reading.{Input}
use Rattle.source_reader.specs.Faults.{Fault, unexpected}
use Rattle.source_reader.specs.Tokens.{past_gap, token_at}
use Rattle.source_reader.specs.Plan.{Plan, done, refuse, next, Spelled, Faulty, onward, run}
use Rattle.source_reader.specs.Laws.{TokenIsExact, TokenFaultIsExact}

-- a reading gives one value, or one fault, and not both
pub one_value : {A : Type 0} {r : Result A Fault} (x y : A) → r ≡ Ok x → r ≡ Ok y → x ≡ y
one_value x y e h = cc

pub one_fault : {A : Type 0} {r : Result A Fault} (f g : Fault) → r ≡ Err f → r ≡ Err g → f ≡ g
one_fault f g e h = cc

pub not_both : {A : Type 0} {r : Result A Fault} (x : A) (fault : Fault) → r ≡ Ok x → r ≡ Err fault → ⊥
not_both x fault e f = cc

-- what a reading went through
onward-ok : {A X : Type 0} (r : Result (A × Input) Fault) (go_on : A → Input → Result (X × Input) Fault) (x : X × Input) → onward r go_on ≡ Ok x
    → (a : A) × (s : Input) × (r ≡ Ok (a, s)) × (go_on a s ≡ Ok x)
onward-ok (Ok y) go_on x e = (y.0, y.1, refl, e)
onward-ok (Err fault) go_on x e = absurd (cc)

onward-err : {A X : Type 0} (r : Result (A × Input) Fault) (go_on : A → Input → Result (X × Input) Fault) (fault : Fault) → onward r go_on ≡ Err fault
    → (r ≡ Err fault) ⊎ ((a : A) × (s : Input) × (r ≡ Ok (a, s)) × (go_on a s ≡ Err fault))
onward-err (Ok y) go_on fault e = inr (y.0, y.1, refl, e)
onward-err {X = X} (Err own) go_on fault e =
    let given : Fault → Result (X × Input) Fault = λ (f : Fault). Err f in
    let same : own ≡ fault = one_fault {r = given own} own fault refl e in inl (ap (λ (f : Fault). Err f) same)

module _ (exact : TokenIsExact) (faults : TokenFaultIsExact) where
  -- what is read is so spelled
  pub run-spelled : {X : Type 0} (p : Plan X) (s after : Input) (x : X) → run p s ≡ Ok (x, after) → Spelled p x s after
  run-spelled {X = X} (done y) s after x e =
      let given : X × Input → Result (X × Input) Fault = λ (v : X × Input). Ok v in
      let same = one_value {r = given (y, s)} (y, s) (x, after) refl e in
      (ap (λ (v : X × Input). v.0) same, ap (λ (v : X × Input). v.1) same)
  run-spelled (refuse at) s after x e = absurd (cc)
  run-spelled (next more) s after x e =
      let h = onward-ok (token_at (past_gap s)) (λ t rest. run (more (past_gap s).at t) rest) (x, after) e in
      (h.0, h.1, (exact (past_gap s) h.1 h.0).0 h.2, run-spelled (more (past_gap s).at h.0) h.1 after x h.3)

  -- what is so spelled is read
  pub spelled-run : {X : Type 0} (p : Plan X) (s after : Input) (x : X) → Spelled p x s after → run p s ≡ Ok (x, after)
  spelled-run {X = X} (done y) s after x h =
      ap (λ (v : X). Ok (v, s)) h.0 ∙ ap (λ (a : Input). Ok (x, a)) h.1
  spelled-run (refuse at) s after x h = absurd h
  spelled-run (next more) s after x h =
      ap (λ r. onward r (λ t rest. run (more (past_gap s).at t) rest)) ((exact (past_gap s) h.1 h.0).1 h.2)
      ∙ spelled-run (more (past_gap s).at h.0) h.1 after x h.3

  -- the fault that is known is the first thing that is wrong
  pub run-faulty : {X : Type 0} (p : Plan X) (s : Input) (fault : Fault) → run p s ≡ Err fault → Faulty p s fault
  run-faulty (done x) s fault e = absurd (cc)
  run-faulty {X = X} (refuse at) s fault e =
      let given : Fault → Result (X × Input) Fault = λ (f : Fault). Err f in
      one_fault {r = given (unexpected at)} fault (unexpected at) e refl
  run-faulty (next more) s fault e =
      elim (onward-err (token_at (past_gap s)) (λ t rest. run (more (past_gap s).at t) rest) fault e) [
        | inl h ↦ inl ((faults (past_gap s) fault).0 h)
        | inr h ↦ inr (h.0, h.1, (exact (past_gap s) h.1 h.0).0 h.2, run-faulty (more (past_gap s).at h.0) h.1 fault h.3)
      ]

  -- the first thing that is wrong is known
  pub faulty-run : {X : Type 0} (p : Plan X) (s : Input) (fault : Fault) → Faulty p s fault → run p s ≡ Err fault
  faulty-run (done x) s fault h = absurd h
  faulty-run (refuse at) s fault h = ap (λ (f : Fault). Err f) (sym h)
  faulty-run (next more) s fault (inl h) =
      ap (λ r. onward r (λ t rest. run (more (past_gap s).at t) rest)) ((faults (past_gap s) fault).1 h)
  faulty-run (next more) s fault (inr h) =
      ap (λ r. onward r (λ t rest. run (more (past_gap s).at t) rest)) ((exact (past_gap s) h.1 h.0).1 h.2)
      ∙ faulty-run (more (past_gap s).at h.0) h.1 fault h.3
