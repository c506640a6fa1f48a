-- A plan reads exactly what it spells.
use Rattle.std.proofs.Common.{◌≡◌, ℕ, ◌+◌, Bool, true, false, cond, ◌⊎◌, inl, inr, List, Option, Some, None, ℤ, Result, Ok, Err, refl, sym, ap, subst, ◌∙◌}
use Rattle.adv_text.specs.Reading.{Input, number_at, quoted_at, no_number, big_number, no_quote, open_string, long_string}
use Rattle.adv_text.specs.Reading.{Fault as TextFault}
use Rattle.scott_format.specs.Faults.{Fault}
use Rattle.scott_format.specs.Plan.{Plan, done, check, number, quoted, perhaps, Spelled, onward, onward_perhaps, run}
use Rattle.scott_format.specs.TextLaws.{TextLaws}

-- ---- what a reading that gave a value went through

abbrev pub given : {A : Type 0} → A → Result A Fault
given x = Ok x

-- a reading gives one value, or one fault
pub value_is : {A : Type 0} (x y : A) → given x ≡ given y → x ≡ y
value_is x y e = cc

pub one_fault : {A : Type 0} {r : Result A Fault} (f g : Fault) → r ≡ Err f → r ≡ Err g → f ≡ g
one_fault f g e h = cc

pub check-ok : {X : Type 0} (test : Bool) (fault : Fault) (r : Result (X × Input) Fault) (x : X × Input) → cond test r (Err fault) ≡ Ok x → (test ≡ true) × (r ≡ Ok x)
check-ok true fault r x e = (refl, e)
check-ok false fault r x e = absurd (cc)

pub onward-ok : {A X : Type 0} (r : Result (A × Input) TextFault) (go_on : A → Input → Result (X × Input) Fault) (x : X × Input) → onward r go_on ≡ Ok x
    → (a : A) × (s : Input) × (r ≡ Ok (a, s)) × (go_on a s ≡ Ok x)
onward-ok (Ok y) go_on x e = (y.0, y.1, refl, e)
onward-ok (Err fault) go_on x e = absurd (cc)

perhaps-ok : {X : Type 0} (r : Result (ℤ × Input) TextFault) (s : Input) (go_on : Option ℤ → Input → Result (X × Input) Fault) (x : X × Input) → onward_perhaps r s go_on ≡ Ok x
    → ((z : ℤ) × (after : Input) × (r ≡ Ok (z, after)) × (go_on (Some z) after ≡ Ok x)) ⊎ ((at : ℕ) × (r ≡ Err (no_number at)) × (go_on None s ≡ Ok x))
perhaps-ok (Ok y) s go_on x e = inl (y.0, y.1, refl, e)
perhaps-ok (Err (no_number at)) s go_on x e = inr (at, refl, e)
perhaps-ok (Err (big_number at)) s go_on x e = absurd (cc)
perhaps-ok (Err (no_quote at)) s go_on x e = absurd (cc)
perhaps-ok (Err (open_string at)) s go_on x e = absurd (cc)
perhaps-ok (Err (long_string at)) s go_on x e = absurd (cc)

module _ (laws : TextLaws) where
  -- what is read is so spelled
  pub run-spelled : {X : Type 0} (p : Plan X) (s after : Input) (x : X) → run p s ≡ Ok (x, after) → Spelled p x s.rest after.rest
  run-spelled {X = X} (done y) s after x e =
      let same = value_is (y, s) (x, after) e in (ap (λ (p : X × Input). p.0) same, ap (λ (p : X × Input). p.1.rest) same)
  run-spelled (check test fault p) s after x e =
      let h = check-ok test fault (run p s) (x, after) e in (h.0, run-spelled p s after x h.1)
  run-spelled (number next) s after x e =
      let h = onward-ok (number_at s) (λ z remaining. run (next z) remaining) (x, after) e in
      (h.0, h.1.rest, laws.number_is_spelled s h.1 h.0 h.2, run-spelled (next h.0) h.1 after x h.3)
  run-spelled (quoted next) s after x e =
      let h = onward-ok (quoted_at s) (λ t remaining. run (next t) remaining) (x, after) e in
      (h.0, h.1.rest, laws.string_is_spelled s h.1 h.0 h.2, run-spelled (next h.0) h.1 after x h.3)
  run-spelled (perhaps next) s after x e =
      elim (perhaps-ok (number_at s) s (λ o remaining. run (next o) remaining) (x, after) e) [
        | inl h ↦ inl (h.0, h.1.rest, laws.number_is_spelled s h.1 h.0 h.2, run-spelled (next (Some h.0)) h.1 after x h.3)
        | inr h ↦ let missing = (laws.number_fault_is_exact s (no_number h.0)).0 h.1 in inr ((missing.0, missing.1), run-spelled (next None) s after x h.2)
      ]

  -- a plan reads this value at an input, and leaves this rest
  abbrev pub ReadsTo : {X : Type 0} → Plan X → Input → X → List ℕ → Type 0
  ReadsTo p s x rest = (after : Input) × (after.rest ≡ rest) × (run p s ≡ Ok (x, after))

  -- what is so spelled is read
  pub spelled-run : {X : Type 0} (p : Plan X) (s : Input) (x : X) (rest : List ℕ) → Spelled p x s.rest rest → ReadsTo p s x rest
  spelled-run (done y) s x rest h = (s, h.1, ap (λ v. Ok (v, s)) h.0)
  spelled-run (check test fault p) s x rest h =
      let more = spelled-run p s x rest h.1 in (more.0, more.1, rw h.0 more.2)
  spelled-run (number next) s x rest h =
      let r = laws.spelled_number_is_read s h.0 h.1 h.2 in
      let more = spelled-run (next h.0) r.0 x rest (subst (λ (b : List ℕ). Spelled (next h.0) x b rest) (sym r.1) h.3) in
      (more.0, more.1, ap (λ t. onward t (λ z remaining. run (next z) remaining)) r.2 ∙ more.2)
  spelled-run (quoted next) s x rest h =
      let r = laws.spelled_string_is_read s h.0 h.1 h.2 in
      let more = spelled-run (next h.0) r.0 x rest (subst (λ (b : List ℕ). Spelled (next h.0) x b rest) (sym r.1) h.3) in
      (more.0, more.1, ap (λ t. onward t (λ z remaining. run (next z) remaining)) r.2 ∙ more.2)
  spelled-run (perhaps next) s x rest (inl h) =
      let r = laws.spelled_number_is_read s h.0 h.1 h.2 in
      let more = spelled-run (next (Some h.0)) r.0 x rest (subst (λ (b : List ℕ). Spelled (next (Some h.0)) x b rest) (sym r.1) h.3) in
      (more.0, more.1, ap (λ t. onward_perhaps t s (λ o remaining. run (next o) remaining)) r.2 ∙ more.2)
  spelled-run (perhaps next) s x rest (inr h) =
      let r = (laws.number_fault_is_exact s (no_number (s.at + h.0.0))).1 (h.0.0, h.0.1, refl) in
      let more = spelled-run (next None) s x rest h.1 in
      (more.0, more.1, ap (λ t. onward_perhaps t s (λ o remaining. run (next o) remaining)) r ∙ more.2)
