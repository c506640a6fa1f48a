-- Where a run first pauses: at a step at which it pauses and before which it doesn't; and that there
-- is such a step among those that it has.
use Rattle.std.proofs.Common.{◌≡◌, ◌∙◌, ℕ, zero, suc, ◌+◌, ◌-◌, ◌<◌, ◌≤◌, ◌==◌, nat_lt, Bool, true, false, if◌then◌else◌, Option, Some, None, refl, sym, ap, subst, arith}
use Rattle.std.proofs.lemmas.Bool.Decides.{nat_tests}
use Rattle.inform_meaning.specs.Tables.{first_of_two}
use Rattle.inform_run.specs.declared.stops.Stop.{Stop}
use Rattle.inform_run.specs.declared.stops.Stop.TheVariants as s
use Rattle.inform_run.specs.Stops.{stop_seen}
use Rattle.inform_stepper.specs.declared.pauses.Until.{Until}
use Rattle.inform_stepper.specs.declared.pauses.Paused.{Paused}
use Rattle.inform_stepper.specs.declared.pauses.Paused.TheVariants as p
use Rattle.inform_stepper.specs.Pauses.{pause_of_stop, Run, pause_here, pause_at}
use Rattle.inform_stepper.specs.Going.{PausesFirst}

-- a stop for anything but steps is a pause, and `Spent` is none
pub stop-pauses : (stop : Stop) → (stop ≡ s.Spent → ⊥)
    → pause_of_stop (stop_seen stop) ≡ Some (p.Stopped stop)
stop-pauses s.Quit other = refl
stop-pauses s.NeedsLine other = refl
stop-pauses s.NeedsDraw other = refl
stop-pauses (s.Trap kind directive) other = refl
stop-pauses s.Spent other = absurd (other refl)

-- the tests of the number of steps
pub not-yet : (n steps : ℕ) → n < steps → (n == steps) ≡ false
not-yet n steps few = grind (arith, nat_tests)

pub at-last : (n : ℕ) → (n == n) ≡ true
at-last n = grind (arith, nat_tests)

module _ (pauses : ℕ → Option Paused) where
  pub none_before : (from : ℕ) → ((n : ℕ) → n < from → pauses n ≡ None) → pauses from ≡ None
      → (n : ℕ) → n < from + 1 → pauses n ≡ None
  none_before from before here n few = by (nat_lt n from) refl where
    by : (b : Bool) → nat_lt n from ≡ b → pauses n ≡ None
    by true is = before n (grind (arith, nat_tests))
    by false is = let last : n ≡ from = grind (arith, nat_tests) in ap pauses last ∙ here

  -- the first pause from a step on, up to another one
  pub record FirstFrom (from most : ℕ) : Type 0 where
    pub count : ℕ
    pub paused : Paused
    pub later : from ≤ count
    pub few : count ≤ most
    pub first : PausesFirst pauses count paused

  found : (from most : ℕ) (paused : Paused) → from ≤ most
      → ((n : ℕ) → n < from → pauses n ≡ None) → pauses from ≡ Some paused → FirstFrom from most
  found from most paused few before here = record {
    count = from;
    paused = paused;
    later = omega arith;
    few = few;
    first = record { here = here; before = before };
  }

  -- a run that pauses at a step or later, and never before that step, has a first pause
  first_from : (k from : ℕ) (last : Paused) → ((n : ℕ) → n < from → pauses n ≡ None)
      → pauses (from + k) ≡ Some last → FirstFrom from (from + k)
  first_from zero from last before there = let same : from ≡ from + 0 = omega arith in
      found from (from + 0) last (omega arith) before (ap pauses same ∙ there)
  first_from (suc k) from last before there =
      let same : (from + 1) + k ≡ from + suc k = omega arith in
      by (pauses from) refl
      (λ before. first_from k (from + 1) last before (ap pauses same ∙ there)) where
        by : (o : Option Paused) → pauses from ≡ o
            → (((n : ℕ) → n < from + 1 → pauses n ≡ None) → FirstFrom (from + 1) ((from + 1) + k))
            → FirstFrom from (from + suc k)
        by (Some paused) here further = found from (from + suc k) paused (omega arith) before here
        by None here further = let f = further (none_before from before here) in
            record {
              count = f.count;
              paused = f.paused;
              later = omega (arith, f.later);
              few = omega (arith, f.few);
              first = f.first;
            }

module _ (until : Until) (used steps : ℕ) (run : Run) where
  -- before the last step it pauses where it pauses without that number, and so it does at a pause
  pub before-last : (n : ℕ) → n < steps → pause_here until used run n ≡ None
      → pause_at until used steps run n ≡ None
  before-last n few none = ap (λ o. first_of_two o (if n == steps then Some (p.Stopped s.Spent) else None)) none
      ∙ ap (λ b. if b then Some (p.Stopped s.Spent) else None) (not-yet n steps few)

  pub at_pause : (n : ℕ) (paused : Paused) → pause_here until used run n ≡ Some paused
      → pause_at until used steps run n ≡ Some paused
  at_pause n paused here =
      ap (λ o. first_of_two o (if n == steps then Some (p.Stopped s.Spent) else None)) here

  at_last : pause_here until used run steps ≡ None
      → pause_at until used steps run steps ≡ Some (p.Stopped s.Spent)
  at_last none = ap (λ o. first_of_two o (if steps == steps then Some (p.Stopped s.Spent) else None)) none
      ∙ ap (λ b. if b then Some (p.Stopped s.Spent) else None) (at-last steps)

  -- nothing paused so far
  abbrev pub Unpaused : ℕ → Type 0
  Unpaused n = (w : ℕ) → w < n → pause_here until used run w ≡ None

  pub pauses_first : (n : ℕ) (paused : Paused) → n ≤ steps → Unpaused n
      → pause_here until used run n ≡ Some paused
      → PausesFirst (pause_at until used steps run) n paused
  pauses_first n paused few before here = record {
    here = at_pause n paused here;
    before = λ w less. before-last w (omega (arith, less, few)) (before w less);
  }

  pub spends_first : (n : ℕ) → n ≡ steps → Unpaused n → pause_here until used run n ≡ None
      → PausesFirst (pause_at until used steps run) n (p.Stopped s.Spent)
  spends_first n same before none = record {
    here = ap (pause_at until used steps run) same
        ∙ at_last (ap (pause_here until used run) (sym same) ∙ none);
    before = λ w less. before-last w (omega (arith, less, same)) (before w less);
  }

  pub unpaused-more : (n : ℕ) → Unpaused n → pause_here until used run n ≡ None → Unpaused (n + 1)
  unpaused-more n before here = none_before (pause_here until used run) n before here

  -- there is a first pause, wherever nothing paused before
  pub some_pause : (from : ℕ) → from ≤ steps → Unpaused from
      → FirstFrom (pause_at until used steps run) from steps
  some_pause from few before =
      by (pause_here until used run steps) refl where
        before_at : (w : ℕ) → w < from → pause_at until used steps run w ≡ None
        before_at w less = before-last w (omega (arith, less, few)) (before w less)

        to : (last : Paused) → pause_at until used steps run steps ≡ Some last
            → FirstFrom (pause_at until used steps run) from steps
        to last there = let same : from + (steps - from) ≡ steps = omega (arith, few) in
            subst (FirstFrom (pause_at until used steps run) from) same
            (first_from (pause_at until used steps run) (steps - from) from last before_at
            (ap (pause_at until used steps run) same ∙ there))

        by : (o : Option Paused) → pause_here until used run steps ≡ o
            → FirstFrom (pause_at until used steps run) from steps
        by (Some last) is = to last (at_pause steps last is)
        by None is = to (p.Stopped s.Spent) (at_last is)
