-- That what is waited for at a step is what comes next, up to the first step at which it comes: for
-- the run that says a line at each pause.
use Rattle.std.proofs.Common.{◌≡◌, ◌∙◌, ℕ, zero, suc, ◌+◌, ◌-◌, ◌*◌, ◌/◌, ◌%◌, ◌<◌, ◌≤◌, ◌==◌, nat_lt, Bool, true, false, if◌then◌else◌, List, [], ◌∷◌, Option, Some, None, refl, sym, ap, arith}
use Rattle.std.proofs.lemmas.Bool.Decides.{nat_tests}
use Rattle.std.proofs.lemmas.Nat.{mod_below, mod-mul-add}
use Rattle.std.proofs.Math.Nat.{mod-add-div'}
use Rattle.inform_meaning.specs.Frames as f
use Rattle.inform_meaning.specs.Runs as m
use Rattle.inform_meaning.specs.Runs.{stop_of}
use Rattle.inform_meaning.specs.Tables.{first_of_two}
use Rattle.inform_entered.specs.Entered.{newly_entered}
use Rattle.inform_run.specs.declared.stops.Stop.{Stop}
use Rattle.inform_run.specs.declared.stops.Stop.TheVariants as s
use Rattle.inform_stepper.specs.declared.pauses.Until.{Until}
use Rattle.inform_stepper.specs.declared.pauses.Until.TheVariants as u
use Rattle.inform_stepper.specs.declared.pauses.Paused.{Paused}
use Rattle.inform_stepper.specs.declared.pauses.Paused.TheVariants as p
use Rattle.inform_stepper.specs.declared.repeats.Pausing.{Pausing}
use Rattle.inform_stepper.specs.declared.repeats.Pausing.TheVariants as r
use Rattle.inform_stepper.specs.Pauses.{pause_of_stop, stopped, met, Run, pause_here, pause_at}
use Rattle.inform_stepper.specs.Shown.{line_at}
use Rattle.inform_stepper.specs.Going.{PausesFirst}
use Rattle.inform_stepper.specs.Repeats.{InRange, waited, awaited}

-- a number of steps that isn't past what comes next after so many
abbrev pub Within : Pausing → ℕ → ℕ → Type 0
Within (r.At at) used more = Unit
Within (r.Every number) used more = more ≤ number - used % number

module _ (number used : ℕ) (some : 1 ≤ number) where
  abbrev gap : ℕ
  gap = number - used % number

  abbrev quotient : ℕ
  quotient = used / number

  below : used % number < number
  below = mod_below used number (omega (arith, some))

  parts : used % number + quotient * number ≡ used
  parts = mod-add-div' used number

  -- at the next multiple nothing is over
  at-multiple : (used + gap) % number ≡ 0
  at-multiple =
      let product : (quotient + 1) * number ≡ quotient * number + number = omega arith in
      let whole : used + gap ≡ (quotient + 1) * number + 0 = omega (arith, parts, below, product) in
      ap (λ n. n % number) whole ∙ mod-mul-add (quotient + 1) number 0 (omega (arith, some))

  -- and before it something is
  before-multiple : (more : ℕ) → more < gap → (used + more) % number ≡ used % number + more
  before-multiple more few =
      let whole : used + more ≡ quotient * number + (used % number + more) = omega (arith, parts) in
      ap (λ n. n % number) whole
      ∙ mod-mul-add quotient number (used % number + more) (omega (arith, few, below))

  -- whether the number of used steps is the last multiple is whether it is the next one
  same-multiple : (more : ℕ) → 1 ≤ more → more ≤ gap
      → ((used + more) == ((used + more) - (used + more) % number))
      ≡ ((used + more) == (used + gap))
  same-multiple more past few = by (nat_lt more gap) refl where
    by : (b : Bool) → nat_lt more gap ≡ b
        → ((used + more) == ((used + more) - (used + more) % number))
        ≡ ((used + more) == (used + gap))
    by true is =
        let less : more < gap = grind (arith, nat_tests) in
        let rest = before-multiple more less in
        let left : ((used + more) == ((used + more) - (used + more) % number)) ≡ false =
        grind (arith, nat_tests) in
        let right : ((used + more) == (used + gap)) ≡ false = grind (arith, nat_tests) in
        left ∙ sym right
    by false is =
        let same : more ≡ gap = grind (arith, nat_tests) in
        let rest : (used + more) % number ≡ 0 = ap (λ m. (used + m) % number) same ∙ at-multiple in
        let left : ((used + more) == ((used + more) - (used + more) % number)) ≡ true =
        grind (arith, nat_tests) in
        let right : ((used + more) == (used + gap)) ≡ true = grind (arith, nat_tests) in
        left ∙ sym right

-- what is met of what is waited for at a step is what is met of what comes next
pub same_met : (pausing : Pausing) (entered : List ℕ) (used more : ℕ) → InRange pausing
    → 1 ≤ more → Within pausing used more
    → met (waited pausing (used + more)) entered (used + more)
    ≡ met (awaited pausing used) entered (used + more)
same_met (r.At at) entered used more range past within = refl
same_met (r.Every number) entered used more range past within =
    ap (λ b. if b then Some p.AtStep else None) (same-multiple number used range.0 more past within)

-- at the next multiple a run pauses
pub met-multiple : (number used : ℕ) (entered : List ℕ)
    → met (awaited (r.Every number) used) entered (used + (number - used % number)) ≡ Some p.AtStep
met-multiple number used entered =
    let same : ((used + (number - used % number)) == (used + (number - used % number))) ≡ true =
    grind (arith, nat_tests) in
    ap (λ b. if b then Some p.AtStep else None) same

-- ---- up to the first pause

-- where a run doesn't pause, nothing that is waited for came
pub none-here : (until : Until) (used steps : ℕ) (run : Run) (n : ℕ)
    → pause_at until used steps run n ≡ None → pause_here until used run n ≡ None
none-here until used steps run n is = by (pause_here until used run n) refl is where
  by : (o : Option Paused) → pause_here until used run n ≡ o
      → first_of_two o (if n == steps then Some (p.Stopped s.Spent) else None) ≡ None
      → pause_here until used run n ≡ None
  by (Some paused) same is = absurd (cc)
  by None same is = same

something : (o : Option Paused) (paused : Paused) → first_of_two o (Some paused) ≡ None → ⊥
something (Some other) paused is = absurd (cc)
something None paused is = absurd (cc)

-- the first pause isn't past what comes next
module _ (number used steps : ℕ) (run : Run) where
  abbrev next : Until
  next = awaited (r.Every number) used

  pauses-there : (more : ℕ) → number - used % number ≡ suc more
      → pause_at next used steps run (suc more) ≡ None → ⊥
  pauses-there more same none =
      let entered = newly_entered (run more) (run (suc more)) in
      let reached : met next entered (used + suc more) ≡ Some p.AtStep =
      ap (λ n. met next entered (used + n)) (sym same) ∙ met-multiple number used entered in
      something (stopped (run (suc more))) p.AtStep
      (ap (first_of_two (stopped (run (suc more)))) (sym reached)
      ∙ none-here next used steps run (suc more) none)

  not-past : (to_next : ℕ) → number - used % number ≡ to_next → 1 ≤ to_next
      → pause_at next used steps run to_next ≡ None → ⊥
  not-past zero same some none = absurd (omega (arith, some))
  not-past (suc more) same some none = pauses-there more same none

-- no number of steps up to the first pause is past what comes next
pub reaches : (pausing : Pausing) (used steps : ℕ) (run : Run) (count : ℕ) (paused : Paused)
    → InRange pausing → PausesFirst (pause_at (awaited pausing used) used steps run) count paused
    → (more : ℕ) → more ≤ count → Within pausing used more
reaches (r.At at) used steps run count paused range first more few = tt
reaches (r.Every number) used steps run count paused range first more few =
    by (nat_lt (number - used % number) count) refl where
      by : (b : Bool) → nat_lt (number - used % number) count ≡ b
          → more ≤ number - used % number
      by true is =
          let less : number - used % number < count = grind (arith, nat_tests) in
          let over : used % number < number = mod_below used number (omega (arith, range.0)) in
          absurd (not-past number used steps run (number - used % number) refl (omega (arith, over))
          (first.before (number - used % number) less))
      by false is =
          let least : count ≤ number - used % number = grind (arith, nat_tests) in
          omega (arith, least, few)

-- ---- what is said where it pauses

-- at a pause the line is that of what came, and where only the steps are used there is none
pub same_line : (until : Until) (used steps : ℕ) (run : Run) (n : ℕ) (paused : Paused)
    (line : List ℕ) → pause_at until used steps run n ≡ Some paused
    → line_at (pause_here until used run n) line ≡ line_at (Some paused) line
same_line until used steps run n paused line is =
    by (pause_here until used run n) (n == steps) refl is where
      by : (o : Option Paused) (b : Bool) → pause_here until used run n ≡ o
          → first_of_two o (if b then Some (p.Stopped s.Spent) else None) ≡ Some paused
          → line_at (pause_here until used run n) line ≡ line_at (Some paused) line
      by (Some other) b same is = ap (λ o. line_at o line) (same ∙ is)
      by None true same is =
          ap (λ o. line_at o line) same ∙ ap (λ o. line_at o line) is
      by None false same is = absurd (cc)

-- where it doesn't stop there is a line
pub has_line : (paused : Paused) (line : List ℕ) → ((stop : Stop) → paused ≡ p.Stopped stop → ⊥)
    → line_at (Some paused) line ≡ line
has_line (p.Entered at) line other = refl
has_line p.AtStep line other = refl
has_line (p.Stopped stop) line other = absurd (other stop refl)

-- ---- where the steps were used

-- a run that stops for anything else pauses with that
not-spent : (stop : m.Stop) → pause_of_stop stop ≡ Some (p.Stopped s.Spent) → ⊥
not-spent (m.Halted f.Quits) is = absurd (cc)
not-spent (m.Halted (f.Trapped kind directive)) is = absurd (cc)
not-spent (m.Lacking f.NeedsLine) is = absurd (cc)
not-spent (m.Lacking f.NeedsDraw) is = absurd (cc)
not-spent (m.Lacking f.Spent) is = absurd (cc)

named : (b : Bool) (came : Paused) (stop : Stop) → ((other : Stop) → came ≡ p.Stopped other → ⊥)
    → (if b then Some came else None) ≡ Some (p.Stopped stop) → ⊥
named true came stop differs is = let same : came ≡ p.Stopped stop = cc in differs stop same
named false came stop differs is = absurd (cc)

entered-differs : (at : ℕ) (stop : Stop) → p.Entered at ≡ p.Stopped stop → ⊥
entered-differs at stop is = absurd (cc)

step-differs : (stop : Stop) → p.AtStep ≡ p.Stopped stop → ⊥
step-differs stop is = absurd (cc)

not-stopped : (until : Until) (entered : List ℕ) (used : ℕ) (stop : Stop)
    → met until entered used ≡ Some (p.Stopped stop) → ⊥
not-stopped u.Any [] used stop is = absurd (cc)
not-stopped u.Any (at ∷ others) used stop is =
    named true (p.Entered at) stop (entered-differs at) is
not-stopped (u.Routine wanted) [] used stop is = absurd (cc)
not-stopped (u.Routine wanted) (at ∷ others) used stop is =
    named (at == wanted) (p.Entered at) stop (entered-differs at) is
not-stopped (u.Step n) entered used stop is = named (used == n) p.AtStep stop step-differs is

either : (first second : Option Paused) (paused : Paused) → (first ≡ Some paused → ⊥)
    → (second ≡ Some paused → ⊥) → first_of_two first second ≡ Some paused → ⊥
either (Some x) second paused one two is = one is
either None second paused one two is = two is

never-spent : (until : Until) (used : ℕ) (run : Run) (n : ℕ)
    → pause_here until used run n ≡ Some (p.Stopped s.Spent) → ⊥
never-spent until used run zero is = not-spent (stop_of (run 0).0) is
never-spent until used run (suc n) is =
    either (stopped (run (suc n)))
    (met until (newly_entered (run n) (run (suc n))) (used + suc n)) (p.Stopped s.Spent)
    (not-spent (stop_of (run (suc n)).0))
    (not-stopped until (newly_entered (run n) (run (suc n))) (used + suc n) s.Spent) is

-- so it is at the last of the steps that it stops for the want of steps
pub spends-last : (until : Until) (used steps : ℕ) (run : Run) (n : ℕ)
    → pause_at until used steps run n ≡ Some (p.Stopped s.Spent) → n ≡ steps
spends-last until used steps run n is = by (n == steps) refl where
  by : (b : Bool) → (n == steps) ≡ b → n ≡ steps
  by true same = grind (arith, nat_tests)
  by false same = absurd (either (pause_here until used run n) None (p.Stopped s.Spent)
      (never-spent until used run n) (λ none. absurd (cc))
      (ap (λ b. first_of_two (pause_here until used run n)
      (if b then Some (p.Stopped s.Spent) else None)) (sym same) ∙ is))
