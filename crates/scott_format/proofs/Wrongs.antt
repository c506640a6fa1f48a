-- A plan tells just the fault that the bytes have.
use Rattle.std.proofs.Common.{◌≡◌, ℕ, ◌+◌, Bool, true, false, cond, ◌⊎◌, inl, inr, List, length, Option, Some, None, ℤ, Result, Ok, Err, refl, sym, ap, ◌∙◌, arith}
use Rattle.adv_text.specs.Reading.{Input, SameEnd, number_at, quoted_at, no_number, big_number, no_quote, open_string, long_string}
use Rattle.adv_text.specs.Reading.{Fault as TextFault}
use Rattle.adv_text.specs.Laws.{NumberFault}
use Rattle.scott_format.specs.Faults.{Fault, text}
use Rattle.scott_format.specs.Plan.{Plan, done, check, number, quoted, perhaps, onward, onward_perhaps, run}
use Rattle.scott_format.specs.Faulty.{Faulty, NumberTo, StringTo}
use Rattle.scott_format.specs.TextLaws.{TextLaws}
use Rattle.scott_format.proofs.Exact.{one_fault}

-- ---- what a reading that gave a fault went through

pub check-err : {X : Type 0} (test : Bool) (own fault : Fault) (r : Result (X × Input) Fault) → cond test r (Err own) ≡ Err fault
    → ((test ≡ false) × (fault ≡ own)) ⊎ ((test ≡ true) × (r ≡ Err fault))
check-err true own fault r e = inr (refl, e)
check-err {X = X} false own fault r e = inl (refl, sym (one_fault {A = X × Input} own fault refl e))

pub onward-err : {A X : Type 0} (r : Result (A × Input) TextFault) (go_on : A → Input → Result (X × Input) Fault) (fault : Fault) → onward r go_on ≡ Err fault
    → ((own : TextFault) × (r ≡ Err own) × (fault ≡ text own)) ⊎ ((a : A) × (after : Input) × (r ≡ Ok (a, after)) × (go_on a after ≡ Err fault))
onward-err (Ok y) go_on fault e = inr (y.0, y.1, refl, e)
onward-err {X = X} (Err own) go_on fault e = inl (own, refl, sym (one_fault {A = X × Input} (text own) fault refl e))

-- where a number may be missing, a fault is that of a number that is too big, of what follows the
-- number, or of what is read on without one
perhaps-err : {X : Type 0} (r : Result (ℤ × Input) TextFault) (s : Input) (go_on : Option ℤ → Input → Result (X × Input) Fault) (fault : Fault)
    → ((own : TextFault) → r ≡ Err own → NumberFault s own) → onward_perhaps r s go_on ≡ Err fault
    → ((place : ℕ) × (r ≡ Err (big_number place)) × (fault ≡ text (big_number place)))
    ⊎ ((z : ℤ) × (after : Input) × (r ≡ Ok (z, after)) × (go_on (Some z) after ≡ Err fault))
    ⊎ ((place : ℕ) × (r ≡ Err (no_number place)) × (go_on None s ≡ Err fault))
perhaps-err (Ok y) s go_on fault exact e = inr (inl (y.0, y.1, refl, e))
perhaps-err (Err (no_number place)) s go_on fault exact e = inr (inr (place, refl, e))
perhaps-err {X = X} (Err (big_number place)) s go_on fault exact e = inl (place, refl, sym (one_fault {A = X × Input} (text (big_number place)) fault refl e))
perhaps-err (Err (no_quote place)) s go_on fault exact e = absurd (exact (no_quote place) refl)
perhaps-err (Err (open_string place)) s go_on fault exact e = absurd (exact (open_string place) refl)
perhaps-err (Err (long_string place)) s go_on fault exact e = absurd (exact (long_string place) refl)

-- ---- an input is known by its rest and the end

same_spot : (s a b : Input) → a.rest ≡ b.rest → SameEnd s a → SameEnd s b → a ≡ b
same_spot s a b rest ends_a ends_b =
    let sizes : length a.rest ≡ length b.rest = ap length rest in
    let at : a.at ≡ b.at = omega (arith, sizes, ends_a, ends_b) in
    λ i. record { at = at i; rest = rest i }

module _ (laws : TextLaws) where
  -- a number that is spelled up to an input is read up to it
  number_to : (s after : Input) (z : ℤ) → NumberTo s z after → number_at s ≡ Ok (z, after)
  number_to s after z to =
      let r = laws.spelled_number_is_read s z after.rest to.0 in
      r.2 ∙ ap (λ (a : Input). Ok (z, a)) (same_spot s r.0 after r.1 (laws.number_ends s r.0 z r.2) to.1)

  string_to : (s after : Input) (t : List ℕ) → StringTo s t after → quoted_at s ≡ Ok (t, after)
  string_to s after t to =
      let r = laws.spelled_string_is_read s t after.rest to.0 in
      r.2 ∙ ap (λ (a : Input). Ok (t, a)) (same_spot s r.0 after r.1 (laws.string_ends s r.0 t r.2) to.1)

  -- the fault that is known is the first thing that is wrong
  pub run-faulty : {X : Type 0} (p : Plan X) (s : Input) (fault : Fault) → run p s ≡ Err fault → Faulty p s fault
  run-faulty (done x) s fault e = absurd cc
  run-faulty (check test own p) s fault e =
      elim (check-err test own fault (run p s) e) [
        | inl h ↦ inl h
        | inr h ↦ inr (h.0, run-faulty p s fault h.1)
      ]
  run-faulty (number next) s fault e =
      elim (onward-err (number_at s) (λ z after. run (next z) after) fault e) [
        | inl h ↦ inl (h.0, (laws.number_fault_is_exact s h.0).0 h.1, h.2)
        | inr h ↦ inr (h.0, h.1, (laws.number_is_spelled s h.1 h.0 h.2, laws.number_ends s h.1 h.0 h.2), run-faulty (next h.0) h.1 fault h.3)
      ]
  run-faulty (quoted next) s fault e =
      elim (onward-err (quoted_at s) (λ t after. run (next t) after) fault e) [
        | inl h ↦ inl (h.0, (laws.string_fault_is_exact s h.0).0 h.1, h.2)
        | inr h ↦ inr (h.0, h.1, (laws.string_is_spelled s h.1 h.0 h.2, laws.string_ends s h.1 h.0 h.2), run-faulty (next h.0) h.1 fault h.3)
      ]
  run-faulty (perhaps next) s fault e =
      elim (perhaps-err (number_at s) s (λ o after. run (next o) after) fault (λ own f. (laws.number_fault_is_exact s own).0 f) e) [
        | inl h ↦ inl (h.0, (laws.number_fault_is_exact s (big_number h.0)).0 h.1, h.2)
        | inr (inl h) ↦ inr (inl (h.0, h.1, (laws.number_is_spelled s h.1 h.0 h.2, laws.number_ends s h.1 h.0 h.2), run-faulty (next (Some h.0)) h.1 fault h.3))
        | inr (inr h) ↦ let missing = (laws.number_fault_is_exact s (no_number h.0)).0 h.1 in inr (inr ((missing.0, missing.1), run-faulty (next None) s fault h.2))
      ]

  -- the first thing that is wrong is known
  pub faulty-run : {X : Type 0} (p : Plan X) (s : Input) (fault : Fault) → Faulty p s fault → run p s ≡ Err fault
  faulty-run (done x) s fault h = absurd h
  faulty-run (check test own p) s fault (inl h) = rw (h.0, h.1) refl
  faulty-run (check test own p) s fault (inr h) = rw (h.0) (faulty-run p s fault h.1)
  faulty-run (number next) s fault (inl h) =
      ap (λ t. onward t (λ z after. run (next z) after)) ((laws.number_fault_is_exact s h.0).1 h.1) ∙ ap (λ f. Err f) (sym h.2)
  faulty-run (number next) s fault (inr h) =
      ap (λ t. onward t (λ z after. run (next z) after)) (number_to s h.1 h.0 h.2) ∙ faulty-run (next h.0) h.1 fault h.3
  faulty-run (quoted next) s fault (inl h) =
      ap (λ t. onward t (λ t after. run (next t) after)) ((laws.string_fault_is_exact s h.0).1 h.1) ∙ ap (λ f. Err f) (sym h.2)
  faulty-run (quoted next) s fault (inr h) =
      ap (λ t. onward t (λ t after. run (next t) after)) (string_to s h.1 h.0 h.2) ∙ faulty-run (next h.0) h.1 fault h.3
  faulty-run (perhaps next) s fault (inl h) =
      ap (λ t. onward_perhaps t s (λ o after. run (next o) after)) ((laws.number_fault_is_exact s (big_number h.0)).1 h.1) ∙ ap (λ f. Err f) (sym h.2)
  faulty-run (perhaps next) s fault (inr (inl h)) =
      ap (λ t. onward_perhaps t s (λ o after. run (next o) after)) (number_to s h.1 h.0 h.2) ∙ faulty-run (next (Some h.0)) h.1 fault h.3
  faulty-run (perhaps next) s fault (inr (inr h)) =
      let r = (laws.number_fault_is_exact s (no_number (s.at + h.0.0))).1 (h.0.0, h.0.1, refl) in
      ap (λ t. onward_perhaps t s (λ o after. run (next o) after)) r ∙ faulty-run (next None) s fault h.1
