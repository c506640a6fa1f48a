-- What a stepper answers that makes one run up to where so many steps were used.
use Rattle.std.proofs.Common.{◌≡◌, ◌∙◌, ℕ, zero, suc, ◌+◌, ◌-◌, ◌<◌, ◌≤◌, ◌==◌, true, false, if◌then◌else◌, List, Option, Some, None, length, Result, Ok, Err, refl, sym, ap, subst, arith}
use Rattle.std.proofs.lemmas.Bool.Decides.{nat_tests}
use Rattle.adv_draws.specs.Supply.{Supply}
use Rattle.adv_io.specs.History.{grown, GrewByPrefix, draws_taken}
use Rattle.adv_io.specs.Steps.{shown_of, trace_of}
use Rattle.adv_io.specs.Console.{ConsoleView}
use Rattle.adv_io.specs.declared.faults.ConsoleFault.{ConsoleFault}
use Rattle.inform_meaning.specs.Worlds.{Config}
use Rattle.inform_meaning.specs.Frames as f
use Rattle.inform_meaning.specs.Frames.{Outcome}
use Rattle.inform_meaning.specs.Runs as m
use Rattle.inform_meaning.specs.Runs.{stop_of, begun_of}
use Rattle.inform_meaning.specs.Tables.{first_of_two}
use Rattle.inform_entered.specs.Entered.{newly_entered}
use Rattle.inform_steps.specs.Laws.{StoppedStays}
use Rattle.inform_run.specs.declared.runners.Runner.{Runner}
use Rattle.inform_run.specs.declared.stops.Stop.{Stop}
use Rattle.inform_run.specs.declared.stops.Stop.TheVariants as s
use Rattle.inform_run.specs.Runners.{program_run, begun_in, left_to}
use Rattle.inform_stepper.specs.declared.pauses.Until.TheVariants as u
use Rattle.inform_stepper.specs.declared.pauses.Paused.{Paused}
use Rattle.inform_stepper.specs.declared.pauses.Paused.TheVariants as p
use Rattle.inform_stepper.specs.Pauses.{pause_of_stop, stopped, met, Run, pause_here}
use Rattle.inform_stepper.specs.Going.{Goes}
use Rattle.inform_stepper.proofs.FirstPause.{stop-pauses, none_before, Unpaused, pauses_first, spends_first}
use Rattle.inform_stepper.proofs.Led.{Laws, run, Ran, spent-next, fails}

-- what is no pause is the want of steps
spent-of : (stop : m.Stop) → pause_of_stop stop ≡ None → stop ≡ m.Lacking f.Spent
spent-of (m.Halted f.Quits) none = absurd (cc)
spent-of (m.Halted (f.Trapped kind directive)) none = absurd (cc)
spent-of (m.Lacking f.NeedsLine) none = absurd (cc)
spent-of (m.Lacking f.NeedsDraw) none = absurd (cc)
spent-of (m.Lacking f.Spent) none = refl

-- ---- where a run pauses that waits for the step with which `n` are used

module _ (n used : ℕ) (at : Run) where
  abbrev pauses : ℕ → Option Paused
  pauses = pause_here (u.Step n) used at

  -- the pause after so many and one more, if the run stopped so
  after : ℕ → Option Paused → Option Paused
  after k stop =
      first_of_two stop (met (u.Step n) (newly_entered (at k) (at (suc k))) (used + suc k))

  stops-here : (k : ℕ) (paused : Paused) → stopped (at k) ≡ Some paused → pauses k ≡ Some paused
  unfolding after
  stops-here zero paused is = is
  stops-here (suc k) paused is = ap (after k) is

  passes : (k : ℕ) → stopped (at k) ≡ None → (used + k ≡ n → k ≡ 0) → pauses k ≡ None
  unfolding after
  passes zero none other = none
  passes (suc k) none other =
      let differs : used + suc k ≡ n → ⊥ = λ is. absurd (omega (arith, other is)) in
      let unmet : ((used + suc k) == n) ≡ false = grind (arith, nat_tests) in
      ap (after k) none ∙ ap (λ b. if b then Some p.AtStep else None) unmet

  meets : (k : ℕ) → 1 ≤ k → stopped (at k) ≡ None → used + k ≡ n → pauses k ≡ Some p.AtStep
  unfolding after
  meets zero some none is = absurd (omega (arith, some))
  meets (suc k) some none is =
      let same : ((used + suc k) == n) ≡ true = grind (arith, nat_tests) in
      ap (after k) none ∙ ap (λ b. if b then Some p.AtStep else None) same

module _ (laws : Laws) (stays : StoppedStays) (old : ConsoleView) (n steps : ℕ)
    (lines : List (List ℕ)) (r0 : Runner) (d0 : Supply) where
  abbrev at : Run
  at = run old (u.Step n) steps lines r0 d0

  abbrev So : ConsoleView → Result Stop ConsoleFault → Runner → Supply → ℕ → Type 0
  So = Ran old (u.Step n) steps lines r0 d0

  abbrev Gone : ConsoleView → Result Paused ConsoleFault → Runner → Supply → Type 0
  Gone now result r d = Goes old now result (u.Step n) steps lines r0 r d0 d

  -- ---- how many steps a run takes

  -- The steps that a run takes of so many: until they are made it stops for nothing but steps, and
  -- none of them is left over. They are all, unless it then stops for something else.
  record Takes (ahead : ℕ) : Type 0 where
    count : ℕ
    few : count ≤ ahead
    goes_on : (k : ℕ) → k < count → stopped (at k) ≡ None
    none : (at count).1.steps ≡ 0
    all : stopped (at count) ≡ None → count ≡ ahead

  -- the steps that a run takes of so many tell those that it takes of one more
  one-more : (ahead : ℕ) (before : Takes ahead) (stop : Option Paused)
      → stopped (at before.count) ≡ stop → Takes (suc ahead)
  one-more ahead before (Some paused) is = record {
    count = before.count;
    few = omega (arith, before.few);
    goes_on = before.goes_on;
    none = before.none;
    all = λ none. absurd (cc);
  }
  one-more ahead before None is =
      let all : before.count ≡ ahead = before.all is in
      let spent = spent-of (stop_of (at ahead).0) (ap (λ k. stopped (at k)) (sym all) ∙ is) in
      record {
        count = suc ahead;
        few = omega arith;
        goes_on = λ k less. none_before (λ k. stopped (at k)) before.count before.goes_on is k
            (omega (arith, less, all));
        none = (spent-next laws old (u.Step n) steps lines r0 d0 ahead spent).1;
        all = λ none. refl;
      }

  -- of so many steps that it is given, a run takes some: all, or those until it stops
  takes : (ahead : ℕ) → Takes ahead
  takes zero =
      let g = laws.goes (program_run r0) (begun_in r0) (left_to r0 0 lines d0.left) in
      record {
        count = 0;
        few = omega arith;
        goes_on = λ k less. absurd (omega (arith, less));
        none = omega (arith, g.steps);
        all = λ none. refl;
      }
  takes (suc ahead) = one-more ahead (takes ahead) (stopped (at (takes ahead).count)) refl

  module _ (ahead : ℕ) (taken : Takes ahead) where
    -- where it stopped, with so many steps left over
    left_over : ℕ → Outcome × Config
    left_over left = ((at taken.count).0, record (at taken.count).1 { steps = left })

    same : at ahead ≡ left_over (ahead - taken.count)
    unfolding left_over
    same = by (stopped (at taken.count)) refl where
      by : (o : Option Paused) → stopped (at taken.count) ≡ o
          → at ahead ≡ left_over (ahead - taken.count)
      by None is =
          let all : taken.count ≡ ahead = taken.all is in
          let left : (at taken.count).1.steps ≡ ahead - taken.count =
          omega (arith, taken.none, all) in
          ap at (sym all) ∙ ap left_over left
      by (Some paused) is =
          let whole : taken.count + (ahead - taken.count) ≡ ahead = omega (arith, taken.few) in
          let left : (at taken.count).1.steps + (ahead - taken.count) ≡ ahead - taken.count =
          omega (arith, taken.none) in
          ap at (sym whole)
          ∙ stays (program_run r0) (begun_in r0) (left_to r0 0 lines d0.left) taken.count
          (ahead - taken.count)
          (λ spent. let both : None ≡ Some paused = sym (ap pause_of_stop spent) ∙ is in
          absurd (cc))
          ∙ ap left_over left

    -- so it is the run of those that it takes
    used-alone : (now : ConsoleView) (result : Result Stop ConsoleFault) (r : Runner) (d : Supply)
        → So now result r d ahead → So now result r d taken.count
    unfolding left_over
    used-alone now (Ok stop) r d ran =
        let left : (at ahead).1.steps ≡ ahead - taken.count = ap (λ t. t.1.steps) same in
        let l = ran.leaves in
        record {
          shows = ran.shows ∙ ap (λ t. grown old.history (shown_of t.1.past)) same;
          part = tt;
          lines = ran.lines ∙ ap (λ t. Some t.1.lines) same;
          leaves = record {
            begun = l.begun ∙ ap (λ t. begun_of t.0) same;
            world = l.world ∙ ap (λ t. t.1.world) same;
            draws = l.draws ∙ ap (λ t. t.1.draws) same;
            taken = l.taken
                ∙ ap (λ t. d0.taken + length (draws_taken (trace_of t.1.past))) same;
            used = omega (arith, l.used, left, taken.few, taken.none);
            stop = l.stop ∙ ap (λ t. stop_of t.0) same;
          };
        }
    used-alone now (Err fault) r d ran = record {
      shows = tt;
      part = subst (λ t. GrewByPrefix old.history now.history (shown_of t.1.past)) same ran.part;
      lines = tt;
      leaves = tt;
    }

  -- ---- the answer of a run that goes no further than to the step with which `n` are used

  module _ (ahead : ℕ) (some : 1 ≤ ahead) (few : ahead ≤ steps)
      (before : r0.used < n → r0.used + ahead ≤ n) where
    abbrev taken : Takes ahead
    taken = takes ahead

    less : taken.count ≤ steps
    less = omega (arith, taken.few, few)

    unmet : (k : ℕ) → k < ahead → r0.used + k ≡ n → k ≡ 0
    unmet zero earlier is = refl
    unmet (suc k) earlier is =
        let past : r0.used < n = omega (arith, is) in
        absurd (omega (arith, is, earlier, before past))

    unpaused : Unpaused (u.Step n) r0.used steps at taken.count
    unpaused k earlier = passes n r0.used at k (taken.goes_on k earlier)
        (unmet k (omega (arith, earlier, taken.few)))

    pub fails_ahead : (now : ConsoleView) (fault told : ConsoleFault) (r : Runner) (d : Supply)
        → So now (Err fault) r d ahead → Gone now (Err told) r d
    fails_ahead now fault told r d ran =
        fails laws old (u.Step n) steps lines r0 d0 now fault told r d taken.count less unpaused
        (used-alone ahead taken now (Err fault) r d ran)

    pub stops_ahead : (now : ConsoleView) (stop : Stop) (r : Runner) (d : Supply)
        → (stop ≡ s.Spent → ⊥) → So now (Ok stop) r d ahead → Gone now (Ok (p.Stopped stop)) r d
    stops_ahead now stop r d other ran =
        let alone : So now (Ok stop) r d taken.count =
        used-alone ahead taken now (Ok stop) r d ran in
        record {
          count = taken.count;
          paused = p.Stopped stop;
          first = pauses_first (u.Step n) r0.used steps at taken.count (p.Stopped stop) less
              unpaused
              (stops-here n r0.used at taken.count (p.Stopped stop)
              (ap pause_of_stop (sym alone.leaves.stop) ∙ stop-pauses stop other));
          few = less;
          answer = refl;
          used = omega (arith, alone.leaves.used, taken.none);
          runs = alone;
        }

    -- all of its steps were used
    module _ (now : ConsoleView) (stop : Stop) (r : Runner) (d : Supply) (spent : stop ≡ s.Spent)
        (ran : So now (Ok stop) r d ahead) where
      alone : So now (Ok s.Spent) r d taken.count
      alone = subst (λ stop. So now (Ok stop) r d taken.count) spent
          (used-alone ahead taken now (Ok stop) r d ran)

      unstopped : stopped (at taken.count) ≡ None
      unstopped = ap pause_of_stop (sym alone.leaves.stop)

      used-are : r.used ≡ r0.used + taken.count
      used-are = omega (arith, alone.leaves.used, taken.none)

      all : taken.count ≡ ahead
      all = taken.all unstopped

      pub meets_ahead : r.used ≡ n → Gone now (Ok p.AtStep) r d
      meets_ahead is = record {
        count = taken.count;
        paused = p.AtStep;
        first = pauses_first (u.Step n) r0.used steps at taken.count p.AtStep less unpaused
            (meets n r0.used at taken.count (omega (arith, some, all)) unstopped
            (omega (arith, is, used-are)));
        few = less;
        answer = refl;
        used = used-are;
        runs = alone;
      }

      pub spends_ahead : (r.used ≡ n → ⊥) → (ahead < steps → r0.used + ahead ≡ n)
          → Gone now (Ok (p.Stopped s.Spent)) r d
      spends_ahead other reaches =
          let short : ahead < steps → ⊥ =
          λ shorter. other (omega (arith, reaches shorter, used-are, all)) in
          let last : taken.count ≡ steps = omega (arith, few, all, short) in
          record {
            count = taken.count;
            paused = p.Stopped s.Spent;
            first = spends_first (u.Step n) r0.used steps at taken.count last unpaused
                (passes n r0.used at taken.count unstopped
                (λ is. absurd (other (omega (arith, is, used-are)))));
            few = less;
            answer = refl;
            used = used-are;
            runs = alone;
          }
