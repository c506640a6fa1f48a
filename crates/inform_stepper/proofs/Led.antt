-- How far a stepper got that hasn't paused yet, and what it answers where it pauses.
use Rattle.std.proofs.Common.{◌≡◌, ◌∙◌, ℕ, suc, ◌+◌, ◌-◌, ◌<◌, ◌≤◌, ◌==◌, nat_lt, Bool, true, false, if◌then◌else◌, List, [], ◌∷◌, ◌++◌, Option, Some, None, IfSome, Result, Ok, Err, refl, sym, ap, subst, arith}
use Rattle.adv_draws.specs.Supply.{Supply}
use Rattle.adv_io.specs.History.{GrewByPrefix}
use Rattle.adv_io.specs.Steps.{shown_of}
use Rattle.adv_io.specs.Console.{ConsoleView}
use Rattle.adv_io.specs.declared.faults.ConsoleFault.{ConsoleFault}
use Rattle.adv_io.proofs.Sayings.{part_of_more}
use Rattle.adv_io.proofs.Showing.{shown_of-append}
use Rattle.inform_meaning.specs.Laws.{RunsGo}
use Rattle.inform_meaning.specs.Worlds.{World, Config}
use Rattle.inform_meaning.specs.Frames.{Frame, Outcome}
use Rattle.inform_meaning.specs.Runs.{begun_of}
use Rattle.inform_meaning.specs.Tables.{first_of_two}
use Rattle.inform_entered.specs.Entered.{open_routines, newly_entered}
use Rattle.inform_steps.specs.Pieces.{IsSpent, next_piece}
use Rattle.inform_steps.specs.Laws.{PiecesJoin, SpentGoesOn}
use Rattle.inform_run.specs.declared.runners.Runner.{Runner}
use Rattle.inform_run.specs.declared.stops.Stop.{Stop}
use Rattle.inform_run.specs.declared.stops.Stop.TheVariants as s
use Rattle.inform_run.specs.Stops.{stop_seen}
use Rattle.inform_run.specs.Runners.{program_run, begun_in, world_in, left_to, resumed, Runs}
use Rattle.inform_stepper.specs.declared.pauses.Until.{Until}
use Rattle.inform_stepper.specs.declared.pauses.Until.TheVariants as u
use Rattle.inform_stepper.specs.declared.pauses.Paused.{Paused}
use Rattle.inform_stepper.specs.declared.pauses.Paused.TheVariants as p
use Rattle.inform_stepper.specs.Pauses.{pause_of_stop, met, Run, pause_here}
use Rattle.inform_stepper.specs.Going.{stop_in, Goes}
use Rattle.inform_stepper.specs.Laws.{RunsJoin}
use Rattle.inform_stepper.proofs.FirstPause.{stop-pauses, Unpaused, pauses_first, spends_first, unpaused-more, some_pause}

-- what holds of each thing that may be known, of the one that is
pub known : {X : Type 0} (P : X → Type 0) (o : Option X) (x : X) → o ≡ Some x → IfSome o P → P x
known P o x is h = subst (λ o. IfSome o P) is h

pub if_known : {X : Type 0} (P : X → Type 0) (o : Option X) → ((x : X) → o ≡ Some x → P x)
    → IfSome o P
if_known P None h = tt
if_known P (Some x) h = h x refl

-- what is waited for is no stop
by-name : (b : Bool) (at : ℕ) (paused : Paused)
    → (if b then Some (p.Entered at) else None) ≡ Some paused → stop_in paused ≡ s.Spent
by-name true at paused is = let same : p.Entered at ≡ paused = cc in ap stop_in (sym same)
by-name false at paused is = absurd (cc)

by-step : (b : Bool) (paused : Paused) → (if b then Some p.AtStep else None) ≡ Some paused
    → stop_in paused ≡ s.Spent
by-step true paused is = let same : p.AtStep ≡ paused = cc in ap stop_in (sym same)
by-step false paused is = absurd (cc)

met-spent : (until : Until) (entered : List ℕ) (used : ℕ) (paused : Paused)
    → met until entered used ≡ Some paused → stop_in paused ≡ s.Spent
met-spent u.Any [] used paused is = absurd (cc)
met-spent u.Any (at ∷ others) used paused is = by-name true at paused is
met-spent (u.Routine wanted) [] used paused is = absurd (cc)
met-spent (u.Routine wanted) (at ∷ others) used paused is = by-name (at == wanted) at paused is
met-spent (u.Step n) entered used paused is = by-step (used == n) paused is

-- what a step entered is told by the frames that have begun
opened : List Frame → List Frame → World → List ℕ
opened before now w =
    if nat_lt (open_routines before) (open_routines now) then w.scope.directive ∷ [] else []

same_opened : {before before' now now' : List Frame} {w w' : World} → before ≡ before'
    → now ≡ now' → w ≡ w' → opened before now w ≡ opened before' now' w'
same_opened a b c = cc

pub same_entered : (before now before' now' : Outcome × Config)
    → begun_of before.0 ≡ begun_of before'.0 → begun_of now.0 ≡ begun_of now'.0
    → now.1.world ≡ now'.1.world → newly_entered before now ≡ newly_entered before' now'
unfolding opened
same_entered before now before' now' a b c = same_opened a b c

-- the laws on which a stepper stands
pub record Laws : Type 0 where
  pub joins : PiecesJoin
  pub spends : SpentGoesOn
  pub runs : RunsJoin
  pub goes : RunsGo

pub laws_of : RunsGo → PiecesJoin → SpentGoesOn → RunsJoin → Laws
laws_of goes joins spends runs =
    record { joins = joins; spends = spends; runs = runs; goes = goes }

module _ (old : ConsoleView) (until : Until) (steps : ℕ) (lines : List (List ℕ)) (r0 : Runner)
    (d0 : Supply) where
  abbrev pub run : Run
  run n = resumed r0 n lines d0.left

  -- the run so far, after so many steps
  abbrev pub Ran : ConsoleView → Result Stop ConsoleFault → Runner → Supply → ℕ → Type 0
  Ran now result r d n = Runs old now result n (run n) r0 r d0 d

  -- all steps were used, and nothing paused
  pub record Led (now : ConsoleView) (r : Runner) (d : Supply) (n : ℕ) : Type 0 where
    pub ran : Ran now (Ok s.Spent) r d n
    pub unpaused : Unpaused until r0.used steps run (n + 1)

module _ (laws : Laws) (old : ConsoleView) (until : Until) (steps : ℕ) (lines : List (List ℕ))
    (r0 : Runner) (d0 : Supply) where
  abbrev run_at : Run
  run_at = run old until steps lines r0 d0

  abbrev So : ConsoleView → Result Stop ConsoleFault → Runner → Supply → ℕ → Type 0
  So = Ran old until steps lines r0 d0

  abbrev Far : ConsoleView → Runner → Supply → ℕ → Type 0
  Far = Led old until steps lines r0 d0

  abbrev Gone : ConsoleView → Result Paused ConsoleFault → Runner → Supply → Type 0
  Gone now result r d = Goes old now result until steps lines r0 r d0 d

  spent-at : (now : ConsoleView) (r : Runner) (d : Supply) (n : ℕ) → So now (Ok s.Spent) r d n
      → IsSpent (run_at n)
  spent-at now r d n ran = sym ran.leaves.stop

  pub spent-next : (n : ℕ) → IsSpent (run_at n)
      → ((run_at n).1.steps ≡ 0) × ((run_at (suc n)).1.steps ≡ 0)
  spent-next n spent =
      let from = laws.spends (program_run r0) (begun_in r0) (left_to r0 0 lines d0.left) n 0 spent in
      let j = laws.joins (program_run r0) (begun_in r0) (left_to r0 0 lines d0.left) n 1 in
      let next : n + 1 ≡ suc n = omega arith in
      let both : (run_at (n + 1)).1.steps
      ≡ (run_at n).1.steps + (next_piece (program_run r0) (run_at n) 1).1.steps =
      ap (λ c. c.steps) j.config in
      (from.0, ap (λ m. (run_at m).1.steps) (sym next) ∙ omega (arith, both, from.0, from.1))

  -- one step more
  pub one_more : (now now' : ConsoleView) (result : Result Stop ConsoleFault) (r r' : Runner)
      (d d' : Supply) (n : ℕ) → Far now r d n → program_run r ≡ program_run r0
      → IfSome now.left (λ lines. Runs now now' result 1 (resumed r 1 lines d.left) r r' d d')
      → So now' result r' d' (suc n)
  one_more now now' result r r' d d' n led program step =
      let rest = (run_at n).1.lines in
      let left : now.left ≡ Some rest = led.ran.lines in
      let next : n + 1 ≡ suc n = omega arith in
      subst (So now' result r' d') next
      (laws.runs old now now' s.Spent result n 1 lines rest r0 r r' d0 d d' program left led.ran
      (known (λ lines. Runs now now' result 1 (resumed r 1 lines d.left) r r' d d') now.left rest left
      step))

  -- ---- the beginning, with no step

  first-here : (now : ConsoleView) (stop : Stop) (r : Runner) (d : Supply)
      → So now (Ok stop) r d 0 → pause_here until r0.used run_at 0 ≡ pause_of_stop (stop_seen stop)
  first-here now stop r d ran = ap pause_of_stop (sym ran.leaves.stop)

  pub led_first : (now : ConsoleView) (r : Runner) (d : Supply) → So now (Ok s.Spent) r d 0
      → Far now r d 0
  led_first now r d ran = record {
    ran = ran;
    unpaused = unpaused-more until r0.used steps run_at 0 (λ w less. absurd (omega (arith, less)))
        (first-here now s.Spent r d ran);
  }

  -- a stepper that stops with no step used, for anything but steps, answers that it stopped so
  pub stops_first : (now : ConsoleView) (stop : Stop) (r : Runner) (d : Supply)
      → (stop ≡ s.Spent → ⊥) → So now (Ok stop) r d 0 → Gone now (Ok (p.Stopped stop)) r d
  stops_first now stop r d other ran =
      let g = laws.goes (program_run r0) (begun_in r0) (left_to r0 0 lines d0.left) in
      record {
        count = 0;
        paused = p.Stopped stop;
        first = pauses_first until r0.used steps run_at 0 (p.Stopped stop) (omega arith)
            (λ w less. absurd (omega (arith, less)))
            (first-here now stop r d ran ∙ stop-pauses stop other);
        few = omega arith;
        answer = refl;
        used = omega (arith, ran.leaves.used, g.steps);
        runs = ran;
      }

  -- ---- after a step

  step-here : (now : ConsoleView) (stop : Stop) (r : Runner) (d : Supply) (n : ℕ)
      → So now (Ok stop) r d (suc n)
      → pause_here until r0.used run_at (suc n)
      ≡ first_of_two (pause_of_stop (stop_seen stop))
      (met until (newly_entered (run_at n) (run_at (suc n))) (r0.used + suc n))
  step-here now stop r d n ran = ap (λ o. first_of_two (pause_of_stop o)
      (met until (newly_entered (run_at n) (run_at (suc n))) (r0.used + suc n))) (sym ran.leaves.stop)

  used-is : (now : ConsoleView) (stop : Stop) (r : Runner) (d : Supply) (n : ℕ)
      → So now (Ok stop) r d n → (run_at n).1.steps ≡ 0 → r.used ≡ r0.used + n
  used-is now stop r d n ran none = omega (arith, ran.leaves.used, none)

  module _ (now now' : ConsoleView) (r r' : Runner) (d d' : Supply) (n : ℕ) (few : n < steps)
      (led : Far now r d n) where
    none : (run_at (suc n)).1.steps ≡ 0
    none = (spent-next n (spent-at now r d n led.ran)).1

    unpaused : Unpaused until r0.used steps run_at (suc n)
    unpaused w less = led.unpaused w (omega (arith, less))

    -- a stop for anything but steps
    pub stops_after : (stop : Stop) → (stop ≡ s.Spent → ⊥) → So now' (Ok stop) r' d' (suc n)
        → Gone now' (Ok (p.Stopped stop)) r' d'
    stops_after stop other ran = record {
      count = suc n;
      paused = p.Stopped stop;
      first = pauses_first until r0.used steps run_at (suc n) (p.Stopped stop) (omega (arith, few))
          unpaused
          (step-here now' stop r' d' n ran
          ∙ ap (λ o. first_of_two o
          (met until (newly_entered (run_at n) (run_at (suc n))) (r0.used + suc n)))
          (stop-pauses stop other));
      few = omega (arith, few);
      answer = refl;
      used = used-is now' stop r' d' (suc n) ran none;
      runs = ran;
    }

    -- what was looked for after the step is what the at pauses for
    pub here : (was is_now : ℕ) (entered : List ℕ) → So now' (Ok s.Spent) r' d' (suc n)
        → was ≡ open_routines (begun_in r) → is_now ≡ open_routines (begun_in r')
        → entered ≡ (if nat_lt was is_now then (world_in r').scope.directive ∷ [] else [])
        → pause_here until r0.used run_at (suc n) ≡ met until entered r'.used
    unfolding opened
    here was is_now entered ran before after is =
        let told : entered ≡ opened (begun_in r) (begun_in r') (world_in r') = is
        ∙ ap (λ m. if nat_lt m is_now then (world_in r').scope.directive ∷ [] else []) before
        ∙ ap (λ m. if nat_lt (open_routines (begun_in r)) m
        then (world_in r').scope.directive ∷ [] else []) after in
        let newly : entered ≡ newly_entered (run_at n) (run_at (suc n)) = told
        ∙ same_opened led.ran.leaves.begun ran.leaves.begun ran.leaves.world in
        step-here now' s.Spent r' d' n ran
        ∙ ap (λ xs. met until xs (r0.used + suc n)) (sym newly)
        ∙ ap (met until entered) (sym (used-is now' s.Spent r' d' (suc n) ran none))

    pub pauses_after : (entered : List ℕ) (paused : Paused) → So now' (Ok s.Spent) r' d' (suc n)
        → pause_here until r0.used run_at (suc n) ≡ met until entered r'.used
        → met until entered r'.used ≡ Some paused → Gone now' (Ok paused) r' d'
    pauses_after entered paused ran same is = record {
      count = suc n;
      paused = paused;
      first = pauses_first until r0.used steps run_at (suc n) paused (omega (arith, few)) unpaused
          (same ∙ is);
      few = omega (arith, few);
      answer = refl;
      used = used-is now' s.Spent r' d' (suc n) ran none;
      runs = subst (λ stop. So now' (Ok stop) r' d' (suc n))
          (sym (met-spent until entered r'.used paused is)) ran;
    }

    pub goes_on : (entered : List ℕ) → So now' (Ok s.Spent) r' d' (suc n)
        → pause_here until r0.used run_at (suc n) ≡ met until entered r'.used
        → met until entered r'.used ≡ None → Far now' r' d' (n + 1)
    goes_on entered ran same is =
        let next : suc n ≡ n + 1 = omega arith in
        subst (Far now' r' d') next (record {
          ran = ran;
          unpaused = unpaused-more until r0.used steps run_at (suc n) unpaused (same ∙ is);
        })

  -- a stepper that used all its steps without a pause answers that they are spent
  pub all_used : (now : ConsoleView) (r : Runner) (d : Supply) (n : ℕ) → n ≡ steps → Far now r d n
      → Gone now (Ok (p.Stopped s.Spent)) r d
  all_used now r d n all led = record {
    count = n;
    paused = p.Stopped s.Spent;
    first = spends_first until r0.used steps run_at n all
        (λ w less. led.unpaused w (omega (arith, less))) (led.unpaused n (omega arith));
    few = omega (arith, all);
    answer = refl;
    used = used-is now s.Spent r d n led.ran (spent-next n (spent-at now r d n led.ran)).0;
    runs = led.ran;
  }

  -- ---- a fault of the console

  -- a part of what is shown of so many steps is a part of what is shown of more
  shown-more : (now : ConsoleView) (n m : ℕ) → n ≤ m
      → GrewByPrefix old.history now.history (shown_of (run_at n).1.past)
      → GrewByPrefix old.history now.history (shown_of (run_at m).1.past)
  shown-more now n m fewer part =
      let j = laws.joins (program_run r0) (begun_in r0) (left_to r0 0 lines d0.left) n (m - n) in
      let second = next_piece (program_run r0) (run_at n) (m - n) in
      let all : n + (m - n) ≡ m = omega (arith, fewer) in
      let past : (run_at (n + (m - n))).1.past ≡ (run_at n).1.past ++ second.1.past =
      ap (λ c. c.past) j.config in
      subst (λ k. GrewByPrefix old.history now.history (shown_of (run_at k).1.past)) all
      (subst (GrewByPrefix old.history now.history)
      (sym (ap shown_of past ∙ shown_of-append (run_at n).1.past second.1.past))
      (part_of_more old.history now.history (shown_of (run_at n).1.past) (shown_of second.1.past) part))

  -- a stepper whose run fails before it paused answers a fault
  pub fails : (now : ConsoleView) (fault told : ConsoleFault) (r : Runner) (d : Supply) (n : ℕ)
      → n ≤ steps → Unpaused until r0.used steps run_at n → So now (Err fault) r d n
      → Gone now (Err told) r d
  fails now fault told r d n few unpaused ran =
      let f = some_pause until r0.used steps run_at n few unpaused in
      record {
        count = f.count;
        paused = f.paused;
        first = f.first;
        few = f.few;
        answer = tt;
        used = tt;
        runs = record {
          shows = tt;
          part = shown-more now n f.count f.later ran.part;
          lines = tt;
          leaves = tt;
        };
      }

  pub fails_first : (now : ConsoleView) (fault told : ConsoleFault) (r : Runner) (d : Supply)
      → So now (Err fault) r d 0 → Gone now (Err told) r d
  fails_first now fault told r d ran =
      fails now fault told r d 0 (omega arith) (λ w less. absurd (omega (arith, less))) ran

  pub fails_after : (now now' : ConsoleView) (fault told : ConsoleFault) (r r' : Runner) (d d' : Supply)
      (n : ℕ) → n < steps → Far now r d n → So now' (Err fault) r' d' (suc n)
      → Gone now' (Err told) r' d'
  fails_after now now' fault told r r' d d' n few led ran = fails now' fault told r' d' (suc n)
      (omega (arith, few)) (λ w less. led.unpaused w (omega (arith, less))) ran
