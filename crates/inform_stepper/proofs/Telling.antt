-- How far a run got that says a line at each pause, and what it has shown: for the loop that makes
-- it.
use Rattle.std.proofs.Common.{◌≡◌, ◌∙◌, ℕ, zero, suc, ◌+◌, ◌-◌, ◌<◌, ◌≤◌, List, [], ◌++◌, Option, Some, None, Result, Ok, Err, refl, sym, ap, subst, append-nil, arith}
use Rattle.adv_draws.specs.Supply.{Supply}
use Rattle.adv_io.specs.declared.events.Event.{Event}
use Rattle.adv_io.specs.History.{says, grown, GrewByPrefix}
use Rattle.adv_io.specs.Steps.{shown_of}
use Rattle.adv_io.specs.Console.{ConsoleView, Speaks}
use Rattle.adv_io.specs.declared.faults.ConsoleFault.{ConsoleFault}
use Rattle.adv_io.specs.Faults.{HasCause}
use Rattle.adv_io.proofs.Sayings.{grown_on, part_on, part_of_more, cause_fails}
use Rattle.inform_names.specs.declared.accepted.Accepted.{Accepted}
use Rattle.inform_names.specs.Views.{directives_of}
use Rattle.inform_meaning.specs.Frames.{Outcome}
use Rattle.inform_meaning.specs.Worlds.{Config}
use Rattle.inform_meaning.specs.Runs.{resume, stop_of, begun_of}
use Rattle.inform_meaning.specs.Tables.{first_of_two}
use Rattle.inform_entered.specs.Entered.{newly_entered}
use Rattle.inform_steps.specs.Pieces.{IsSpent, next_piece, Joins}
use Rattle.inform_steps.specs.Laws.{PiecesJoin, SpentGoesOn, StoppedStays}
use Rattle.inform_run.specs.declared.runners.Runner.{Runner}
use Rattle.inform_run.specs.declared.stops.Stop.{Stop}
use Rattle.inform_run.specs.declared.stops.Stop.TheVariants as s
use Rattle.inform_run.specs.Stops.{stop_seen}
use Rattle.inform_run.specs.Runners.{program_run, begun_in, world_in, left_to, resumed, Leaves, Runs}
use Rattle.inform_stepper.specs.declared.pauses.Until.{Until}
use Rattle.inform_stepper.specs.declared.pauses.Paused.{Paused}
use Rattle.inform_stepper.specs.declared.pauses.Paused.TheVariants as p
use Rattle.inform_stepper.specs.declared.repeats.Pausing.{Pausing}
use Rattle.inform_stepper.specs.Pauses.{pause_of_stop, stopped, met, Run, pause_after, pause_here, pause_at}
use Rattle.inform_stepper.specs.Going.{PausesFirst, stop_in, Goes}
use Rattle.inform_stepper.specs.Shown.{events_after, step_shown, pause_line, line_at, pause_text}
use Rattle.inform_stepper.specs.Laws.{RunsJoin, PausesAreShown, StoppedShowsNoMore}
use Rattle.inform_stepper.specs.Repeats.{InRange, waited, awaited, globals_of, RunsShowing}
use Rattle.inform_stepper.proofs.FirstPause.{stop-pauses, before-last}
use Rattle.inform_stepper.proofs.Led.{same_entered}
use Rattle.inform_stepper.proofs.Repeating.{Within, same_met, none-here, reaches, same_line, has_line, spends-last}

none-more : (n : ℕ) → n + 0 ≡ n
none-more n = omega arith

one-more : (n m : ℕ) → n + suc m ≡ suc (n + m)
one-more n m = omega arith

-- a fault that comes after what succeeded
pub later_cause : {T U D E : Type 0} (first mid then now : ℕ) {d : D} (e : E) → mid ≡ first
    → then ≡ mid → HasCause {T = T} then now (Err d) → HasCause {T = U} first now (Err e)
later_cause {U = U} {E = E} first mid then now e one two cause =
    subst (λ n. HasCause {T = U} {E = E} n now (Err e)) (two ∙ one) (cause_fails e cause)

-- what doesn't stop has used its steps
spent-in : (paused : Paused) → ((stop : Stop) → paused ≡ p.Stopped stop → ⊥)
    → stop_in paused ≡ s.Spent
spent-in (p.Entered at) other = refl
spent-in p.AtStep other = refl
spent-in (p.Stopped stop) other = absurd (other stop refl)

nowhere : (o : Option Paused) (paused : Paused) → o ≡ None → o ≡ Some paused → ⊥
nowhere o paused none some = let both : None ≡ Some paused = sym none ∙ some in absurd (cc)

-- the laws on which it stands
pub record Laws : Type 0 where
  pub joins : PiecesJoin
  pub spends : SpentGoesOn
  pub stays : StoppedStays
  pub runs : RunsJoin
  pub shows : PausesAreShown
  pub quiet : StoppedShowsNoMore

-- a console of which the history isn't known
abbrev veiled : ConsoleView → ConsoleView
veiled v = record v { history = None }

veil : (old now : ConsoleView) (stop : Stop) (n : ℕ) (t : Outcome × Config) (r r' : Runner)
    (d d' : Supply) → Runs old now (Ok stop) n t r r' d d'
    → Runs (veiled old) (veiled now) (Ok stop) n t r r' d d'
veil old now stop n t r r' d d' ran = record {
  shows = refl;
  part = tt;
  lines = ran.lines;
  leaves = ran.leaves;
}

veil-showing : (old now : ConsoleView) (stop : Stop) (all : List Event) (n : ℕ)
    (t : Outcome × Config) (r r' : Runner) (d d' : Supply)
    → RunsShowing old now (Ok stop) all n t r r' d d'
    → Runs (veiled old) (veiled now) (Ok stop) n t r r' d d'
veil-showing old now stop all n t r r' d d' ran = record {
  shows = refl;
  part = tt;
  lines = ran.lines;
  leaves = ran.leaves;
}

module _ (a : Accepted) (pausing : Pausing) (lines : List (List ℕ)) (r0 : Runner)
    (d0 : Supply) where
  abbrev pub run : Run
  run n = resumed r0 n lines d0.left

  abbrev pub names : List (List ℕ)
  names = globals_of (directives_of a)

  abbrev pub text : ℕ → List ℕ
  text = pause_text (waited pausing) names r0.used run

  -- what is shown of so many steps
  abbrev pub all : ℕ → List Event
  all n = step_shown text run n

  -- the run of so many steps, with its lines
  abbrev pub Told : ConsoleView → ConsoleView → Result Stop ConsoleFault → Runner → Supply → ℕ
      → Type 0
  Told old now result r d n = RunsShowing old now result (all n) n (run n) r0 r d0 d

  -- at least so many steps were used, and the run goes on
  pub record Sofar (old now : ConsoleView) (r : Runner) (d : Supply) (least : ℕ) : Type 0 where
    pub count : ℕ
    pub later : least ≤ count
    pub told : Told old now (Ok s.Spent) r d count

module _ (laws : Laws) (a : Accepted) (pausing : Pausing) (lines : List (List ℕ)) (r0 : Runner)
    (d0 : Supply) where
  abbrev at : Run
  at = run a pausing lines r0 d0

  abbrev shown : ℕ → List Event
  shown = all a pausing lines r0 d0

  abbrev said : ℕ → List ℕ
  said = text a pausing lines r0 d0

  abbrev So : ConsoleView → ConsoleView → Result Stop ConsoleFault → Runner → Supply → ℕ → Type 0
  So = Told a pausing lines r0 d0

  -- where the run pauses after so many steps and one more
  abbrev pauses : ℕ → Option Paused
  pauses i = pause_after (waited pausing (r0.used + suc i)) (r0.used + suc i) (at i) (at (suc i))

  -- the line of the program after so many steps and one more
  abbrev line : ℕ → List ℕ
  line i = pause_line (names a pausing lines r0 d0) (r0.used + suc i) (at (suc i)).1.world

  -- ---- more steps

  -- a part of what is shown of so many steps is a part of what is shown of more
  part-more : (h h' : Option (List Event)) (n k : ℕ) → GrewByPrefix h h' (shown n)
      → GrewByPrefix h h' (shown (n + k))
  part-more h h' n zero part =
      subst (λ m. GrewByPrefix h h' (shown m)) (sym (none-more n)) part
  part-more h h' n (suc k) part =
      subst (λ m. GrewByPrefix h h' (shown m)) (sym (one-more n k))
      (part_of_more h h' (shown (n + k) ++ shown_of (events_after at (n + k)))
      (says (said (suc (n + k))))
      (part_of_more h h' (shown (n + k)) (shown_of (events_after at (n + k)))
      (part-more h h' n k part)))

  -- a run that may fail with a prefix shown of what some steps show may fail so with more steps
  pub fails : (old now : ConsoleView) (fault : ConsoleFault) (r : Runner) (d : Supply) (n steps : ℕ)
      → n ≤ steps → GrewByPrefix old.history now.history (shown n)
      → So old now (Err fault) r d steps
  fails old now fault r d n steps few part =
      let whole : n + (steps - n) ≡ steps = omega (arith, few) in
      record {
        shows = tt;
        part = subst (λ m. GrewByPrefix old.history now.history (shown m)) whole
            (part-more old.history now.history n (steps - n) part);
        lines = tt;
        leaves = tt;
      }

  -- ---- a run that stopped for anything but steps

  module _ (n : ℕ) (stop : Stop) (other : stop ≡ s.Spent → ⊥)
      (is : stop_seen stop ≡ stop_of (at n).0) where
    abbrev stayed : ℕ → Outcome × Config
    stayed k = ((at n).0, record (at n).1 { steps = (at n).1.steps + k })

    unspent : IsSpent (at n) → ⊥
    unspent spent =
        let none : pause_of_stop (stop_seen stop) ≡ None = ap pause_of_stop (is ∙ spent) in
        nowhere (pause_of_stop (stop_seen stop)) (p.Stopped stop) none (stop-pauses stop other)

    stays : (k : ℕ) → at (n + k) ≡ stayed k
    stays k = laws.stays (program_run r0) (begun_in r0) (left_to r0 0 lines d0.left) n k unspent

    shows-no-more : (k : ℕ) → shown (n + k) ≡ shown n
    shows-no-more k = laws.quiet (waited pausing) (names a pausing lines r0 d0) r0.used
        (program_run r0) (begun_in r0) (left_to r0 0 lines d0.left) n k unspent

  -- it is the run with more steps
  pub stops : (old now : ConsoleView) (stop : Stop) (r : Runner) (d : Supply) (n steps : ℕ)
      → n ≤ steps → (stop ≡ s.Spent → ⊥) → So old now (Ok stop) r d n
      → So old now (Ok stop) r d steps
  stops old now stop r d n steps few other ran =
      let more = steps - n in
      let whole : n + more ≡ steps = omega (arith, few) in
      let l = ran.leaves in
      subst (So old now (Ok stop) r d) whole (record {
        shows = ran.shows ∙ ap (grown old.history) (sym (shows-no-more n stop other l.stop more));
        part = tt;
        lines = ran.lines ∙ sym (ap (λ t. Some t.1.lines) (stays n stop other l.stop more));
        leaves = subst (λ t. Leaves t (n + more) r0 r d0 d stop)
            (sym (stays n stop other l.stop more)) (record {
              begun = l.begun;
              world = l.world;
              draws = l.draws;
              taken = l.taken;
              used = omega (arith, l.used);
              stop = l.stop;
            });
      })

  -- the run with no step
  pub first-told : (old now : ConsoleView) (stop : Stop) (r : Runner) (d : Supply)
      → Runs old now (Ok stop) 0 (at 0) r0 r d0 d → So old now (Ok stop) r d 0
  first-told old now stop r d ran = record {
    shows = ran.shows;
    part = tt;
    lines = ran.lines;
    leaves = ran.leaves;
  }

  pub whole-told : (old now : ConsoleView) (stop : Stop) (r : Runner) (d : Supply) (n steps : ℕ)
      → n ≡ steps → So old now (Ok stop) r d n → So old now (Ok stop) r d steps
  whole-told old now stop r d n steps all told = subst (So old now (Ok stop) r d) all told

  -- a run that stopped is the run with more steps, where all are used if it stopped for them
  stops-anyhow : (old now : ConsoleView) (stop : Stop) (r : Runner) (d : Supply) (n steps : ℕ)
      → n ≤ steps → (stop ≡ s.Spent → n ≡ steps) → So old now (Ok stop) r d n
      → So old now (Ok stop) r d steps
  stops-anyhow old now s.Spent r d n steps few all told =
      whole-told old now s.Spent r d n steps (all refl) told
  stops-anyhow old now s.Quit r d n steps few all told =
      stops old now s.Quit r d n steps few (λ is. absurd (cc)) told
  stops-anyhow old now s.NeedsLine r d n steps few all told =
      stops old now s.NeedsLine r d n steps few (λ is. absurd (cc)) told
  stops-anyhow old now s.NeedsDraw r d n steps few all told =
      stops old now s.NeedsDraw r d n steps few (λ is. absurd (cc)) told
  stops-anyhow old now (s.Trap kind place) r d n steps few all told =
      stops old now (s.Trap kind place) r d n steps few (λ is. absurd (cc)) told

  -- ---- from a step on

  module _ (old now : ConsoleView) (r : Runner) (d : Supply) (n : ℕ)
      (program : program_run r ≡ program_run r0) (told : So old now (Ok s.Spent) r d n) where
    abbrev rest : List (List ℕ)
    rest = (at n).1.lines

    -- the run that goes on from here
    abbrev piece : Run
    piece m = resumed r m rest d.left

    same : (m : ℕ) → piece m ≡ next_piece (program_run r0) (at n) m
    same m =
        ap (λ p. resume p (begun_in r) (left_to r m rest d.left)) program
        ∙ ap (λ fs. resume (program_run r0) fs (left_to r m rest d.left)) told.leaves.begun
        ∙ ap (λ w. resume (program_run r0) (begun_of (at n).0)
        (record { steps = m; lines = rest; draws = d.left; past = []; world = w }))
        told.leaves.world
        ∙ ap (λ ds. resume (program_run r0) (begun_of (at n).0)
        (record { steps = m; lines = rest; draws = ds; past = []; world = (at n).1.world }))
        told.leaves.draws

    join : (m : ℕ) → Joins (at n) (piece m) (at (n + m))
    join m = subst (λ q. Joins (at n) q (at (n + m))) (sym (same m))
        (laws.joins (program_run r0) (begun_in r0) (left_to r0 0 lines d0.left) n m)

    pub used-is : r.used ≡ r0.used + n
    used-is =
        let from = laws.spends (program_run r0) (begun_in r0) (left_to r0 0 lines d0.left) n 0
        (sym told.leaves.stop) in
        omega (arith, told.leaves.used, from.0)

    -- it pauses where the whole run does
    same-pause : (j : ℕ) → InRange pausing → Within pausing r.used (suc j)
        → pauses (n + j) ≡ pause_here (awaited pausing r.used) r.used piece (suc j)
    same-pause j range within =
        let so_far : r0.used + suc (n + j) ≡ r.used + suc j = omega (arith, used-is) in
        let used = r.used + suc j in
        let stop : stopped (at (suc (n + j))) ≡ stopped (piece (suc j)) =
        ap (λ m. stopped (at m)) (sym (one-more n j)) ∙ ap pause_of_stop (join (suc j)).stop in
        let newly : newly_entered (at (n + j)) (at (suc (n + j)))
        ≡ newly_entered (piece j) (piece (suc j)) =
        ap (λ m. newly_entered (at (n + j)) (at m)) (sym (one-more n j))
        ∙ same_entered (at (n + j)) (at (n + suc j)) (piece j) (piece (suc j)) (join j).begun
        (join (suc j)).begun (ap (λ c. c.world) (join (suc j)).config) in
        ap (λ u. pause_after (waited pausing u) u (at (n + j)) (at (suc (n + j)))) so_far
        ∙ ap (λ o. first_of_two o (met (waited pausing used)
        (newly_entered (at (n + j)) (at (suc (n + j)))) used)) stop
        ∙ ap (λ es. first_of_two (stopped (piece (suc j))) (met (waited pausing used) es used))
        newly
        ∙ ap (first_of_two (stopped (piece (suc j))))
        (same_met pausing (newly_entered (piece j) (piece (suc j))) r.used (suc j) range
        (omega arith) within)

    -- it goes on for a step at least
    no-pause-here : (left : ℕ) → 1 ≤ left
        → pause_at (awaited pausing r.used) r.used left piece 0 ≡ None
    no-pause-here left some =
        let here : stop_of (piece 0).0 ≡ stop_seen s.Spent = sym (join 0).stop
        ∙ ap (λ m. stop_of (at m).0) (none-more n) ∙ sym told.leaves.stop in
        before-last (awaited pausing r.used) r.used left piece 0 (omega (arith, some))
        (ap pause_of_stop here)

    module _ (range : InRange pausing) (left more : ℕ) (paused : Paused)
        (first : PausesFirst (pause_at (awaited pausing r.used) r.used left piece) (suc more)
        paused)
      where
        within : (m : ℕ) → m ≤ suc more → Within pausing r.used m
        within m few = reaches pausing r.used left piece (suc more) paused range first m few

        quiet : (j : ℕ) → suc j ≤ more → said (suc (n + j)) ≡ []
        quiet j few =
            ap (λ o. line_at o (line (n + j)))
            (same-pause j range (within (suc j) (omega (arith, few)))
            ∙ none-here (awaited pausing r.used) r.used left piece (suc j)
            (first.before (suc j) (omega (arith, few))))

        none : (k : ℕ) → n < k → k ≤ n + more → said k ≡ []
        none k past few =
            let whole : k ≡ suc (n + (k - n - 1)) = omega (arith, past) in
            ap said whole ∙ quiet (k - n - 1) (omega (arith, past, few))

        at-pause : said (n + suc more) ≡ line_at (Some paused) (line (n + more))
        at-pause =
            ap said (one-more n more)
            ∙ ap (λ o. line_at o (line (n + more)))
            (same-pause more range (within (suc more) (omega arith)))
            ∙ same_line (awaited pausing r.used) r.used left piece (suc more) paused
            (line (n + more))
            first.here

        -- what is shown up to the pause
        shown-there : shown (n + suc more)
            ≡ (shown n ++ shown_of (piece (suc more)).1.past)
            ++ says (line_at (Some paused) (line (n + more)))
        shown-there =
            laws.shows said (program_run r0) (begun_in r0) (left_to r0 0 lines d0.left) n more none
            ∙ ap (λ q. (shown n ++ shown_of q.1.past) ++ says (said (n + suc more)))
            (sym (same (suc more)))
            ∙ ap (λ bytes. (shown n ++ shown_of (piece (suc more)).1.past) ++ says bytes) at-pause

        module _ (mid : ConsoleView) (stop : Stop) (r' : Runner) (d' : Supply)
            (ran : Runs now mid (Ok stop) (suc more) (piece (suc more)) r r' d d') where
          whole : Runs (veiled old) (veiled mid) (Ok stop) (n + suc more) (at (n + suc more)) r0 r'
              d0 d'
          whole = laws.runs (veiled old) (veiled now) (veiled mid) s.Spent (Ok stop) n (suc more)
              lines
              rest r0 r r' d0 d d' program told.lines
              (veil-showing old now s.Spent (shown n) n (at n) r0 r d0 d told)
              (veil now mid stop (suc more) (piece (suc more)) r r' d d' ran)

          so-far : mid.history
              ≡ grown old.history (shown n ++ shown_of (piece (suc more)).1.past)
          so-far = grown_on old.history now.history mid.history (shown n)
              (shown_of (piece (suc more)).1.past) told.shows ran.shows

          line-is : r'.used ≡ r.used + suc more → line (n + more)
              ≡ pause_line (names a pausing lines r0 d0) r'.used (world_in r')
          line-is used =
              let count : r0.used + suc (n + more) ≡ r'.used = omega (arith, used, used-is) in
              ap (λ u. pause_line (names a pausing lines r0 d0) u (at (suc (n + more))).1.world)
              count
              ∙ ap (λ m. pause_line (names a pausing lines r0 d0) r'.used (at m).1.world)
              (sym (one-more n more))
              ∙ ap (pause_line (names a pausing lines r0 d0) r'.used) (sym whole.leaves.world)

          stopped-there : paused ≡ p.Stopped stop → So old mid (Ok stop) r' d' (n + suc more)
          stopped-there is = record {
            shows = so-far ∙ ap (grown old.history)
                (sym (shown-there
                ∙ ap (λ x. (shown n ++ shown_of (piece (suc more)).1.past)
                ++ says (line_at (Some x) (line (n + more)))) is
                ∙ append-nil (shown n ++ shown_of (piece (suc more)).1.past)));
            part = tt;
            lines = whole.lines;
            leaves = whole.leaves;
          }

          -- what is shown with the line
          all-there : ((other : Stop) → paused ≡ p.Stopped other → ⊥) → r'.used ≡ r.used + suc more
              → shown (n + suc more)
              ≡ (shown n ++ shown_of (piece (suc more)).1.past)
              ++ says (pause_line (names a pausing lines r0 d0) r'.used (world_in r'))
          all-there other used = shown-there
              ∙ ap (λ bytes. (shown n ++ shown_of (piece (suc more)).1.past) ++ says bytes)
              (has_line paused (line (n + more)) other ∙ line-is used)

          paused-there : {T E : Type 0} (new : ConsoleView) (x : T)
              → ((other : Stop) → paused ≡ p.Stopped other → ⊥) → r'.used ≡ r.used + suc more
              → Speaks {E = E} mid new (Ok x)
              (says (pause_line (names a pausing lines r0 d0) r'.used (world_in r')))
              → So old new (Ok stop) r' d' (n + suc more)
          paused-there new x other used speaks = record {
            shows = grown_on old.history mid.history new.history
                (shown n ++ shown_of (piece (suc more)).1.past)
                (says (pause_line (names a pausing lines r0 d0) r'.used (world_in r')))
                so-far speaks.said
                ∙ ap (grown old.history) (sym (all-there other used));
            part = tt;
            lines = speaks.lines_stay ∙ whole.lines;
            leaves = whole.leaves;
          }

          line-fails : (new : ConsoleView) → ((other : Stop) → paused ≡ p.Stopped other → ⊥)
              → r'.used ≡ r.used + suc more
              → GrewByPrefix mid.history new.history
              (says (pause_line (names a pausing lines r0 d0) r'.used (world_in r')))
              → GrewByPrefix old.history new.history (shown (n + suc more))
          line-fails new other used part =
              subst (GrewByPrefix old.history new.history) (sym (all-there other used))
              (part_on old.history mid.history new.history
              (shown n ++ shown_of (piece (suc more)).1.past)
              (says (pause_line (names a pausing lines r0 d0) r'.used (world_in r'))) so-far part)

        piece-fails : (new : ConsoleView)
            → GrewByPrefix now.history new.history (shown_of (piece (suc more)).1.past)
            → GrewByPrefix old.history new.history (shown (n + suc more))
        piece-fails new part =
            subst (GrewByPrefix old.history new.history) (sym shown-there)
            (part_of_more old.history new.history (shown n ++ shown_of (piece (suc more)).1.past)
            (says (line_at (Some paused) (line (n + more))))
            (part_on old.history now.history new.history (shown n)
            (shown_of (piece (suc more)).1.past) told.shows part))

    -- ---- what the stepper answers

    module _ (range : InRange pausing) (until : Until) (is_next : until ≡ awaited pausing r.used)
        (left steps : ℕ) (some : 1 ≤ left) (rest_is : left + r.used ≡ r0.used + steps) where
      abbrev Stepped : ConsoleView → Result Paused ConsoleFault → Runner → Supply → Type 0
      Stepped mid result r' d' = Goes now mid result until left rest r r' d d'

      all-steps : n + left ≡ steps
      all-steps = omega (arith, rest_is, used-is)

      abbrev Firstly : ℕ → Paused → Type 0
      Firstly count paused = PausesFirst (pause_at until r.used left piece) count paused

      awaiting : (count : ℕ) (paused : Paused) → Firstly count paused
          → PausesFirst (pause_at (awaited pausing r.used) r.used left piece) count paused
      awaiting count paused first =
          subst (λ u. PausesFirst (pause_at u r.used left piece) count paused) is_next first

      never-at-once : (paused : Paused) → Firstly 0 paused → ⊥
      never-at-once paused first =
          nowhere (pause_at (awaited pausing r.used) r.used left piece 0) paused
          (no-pause-here left some) (awaiting 0 paused first).here

      -- it stopped
      stopped-at : (mid : ConsoleView) (stop : Stop) (r' : Runner) (d' : Supply) (count : ℕ)
          (paused : Paused) → paused ≡ p.Stopped stop → Firstly count paused → count ≤ left
          → Runs now mid (Ok stop) count (piece count) r r' d d' → So old mid (Ok stop) r' d' steps
      stopped-at mid stop r' d' zero paused is first few ran = absurd (never-at-once paused first)
      stopped-at mid stop r' d' (suc more) paused is first few ran =
          let firstly = awaiting (suc more) paused first in
          stops-anyhow old mid stop r' d' (n + suc more) steps (omega (arith, few, all-steps))
          (λ spent. let last : suc more ≡ left =
          spends-last (awaited pausing r.used) r.used left piece (suc more)
          (firstly.here ∙ ap Some (is ∙ ap (λ x. p.Stopped x) spent)) in
          omega (arith, last, all-steps))
          (stopped-there range left more paused firstly mid stop r' d' ran is)

      pub goes_stops : (mid : ConsoleView) (paused : Paused) (stop : Stop) (r' : Runner)
          (d' : Supply) → paused ≡ p.Stopped stop → Stepped mid (Ok paused) r' d'
          → So old mid (Ok stop) r' d' steps
      goes_stops mid paused stop r' d' is g =
          stopped-at mid stop r' d' g.count g.paused (sym g.answer ∙ is) g.first g.few
          (subst (λ x. Runs now mid (Ok x) g.count (piece g.count) r r' d d') (ap stop_in is)
          g.runs)

      -- it failed
      failed-at : (mid : ConsoleView) (fault : ConsoleFault) (r' : Runner) (d' : Supply) (count : ℕ)
          (paused : Paused) → Firstly count paused → count ≤ left
          → GrewByPrefix now.history mid.history (shown_of (piece count).1.past)
          → So old mid (Err fault) r' d' steps
      failed-at mid fault r' d' zero paused first few part = absurd (never-at-once paused first)
      failed-at mid fault r' d' (suc more) paused first few part =
          fails old mid fault r' d' (n + suc more) steps (omega (arith, few, all-steps))
          (piece-fails range left more paused (awaiting (suc more) paused first) mid part)

      pub goes_fails : (mid : ConsoleView) (fault told_fault : ConsoleFault) (r' : Runner)
          (d' : Supply) → Stepped mid (Err fault) r' d' → So old mid (Err told_fault) r' d' steps
      goes_fails mid fault told_fault r' d' g =
          failed-at mid told_fault r' d' g.count g.paused g.first g.few g.runs.part

      -- it paused, and its line was said
      module _ (mid new : ConsoleView) (r' : Runner) (d' : Supply) where
        abbrev spoken : List Event
        spoken = says (pause_line (names a pausing lines r0 d0) r'.used (world_in r'))

        paused-at : {T E : Type 0} (x : T) (least count : ℕ) (paused : Paused)
            → ((other : Stop) → paused ≡ p.Stopped other → ⊥) → least ≤ n → Firstly count paused
            → r'.used ≡ r.used + count
            → Runs now mid (Ok s.Spent) count (piece count) r r' d d'
            → Speaks {E = E} mid new (Ok x) spoken
            → Sofar a pausing lines r0 d0 old new r' d' (least + 1)
        paused-at x least zero paused other later first used ran speaks =
            absurd (never-at-once paused first)
        paused-at x least (suc more) paused other later first used ran speaks = record {
          count = n + suc more;
          later = omega (arith, later);
          told = paused-there range left more paused (awaiting (suc more) paused first) mid s.Spent
              r' d' ran new x other used speaks;
        }

        pub goes_pauses : {T E : Type 0} (x : T) (least : ℕ) (paused : Paused)
            → ((other : Stop) → paused ≡ p.Stopped other → ⊥) → least ≤ n
            → Stepped mid (Ok paused) r' d' → Speaks {E = E} mid new (Ok x) spoken
            → Sofar a pausing lines r0 d0 old new r' d' (least + 1)
        goes_pauses x least paused other later g speaks =
            paused-at x least g.count g.paused (λ stop is. other stop (g.answer ∙ is)) later g.first
            g.used
            (subst (λ y. Runs now mid (Ok y) g.count (piece g.count) r r' d d')
            (spent-in paused other) g.runs) speaks

        unsaid-at : (fault : ConsoleFault) (count : ℕ) (paused : Paused)
            → ((other : Stop) → paused ≡ p.Stopped other → ⊥) → Firstly count paused
            → count ≤ left → r'.used ≡ r.used + count
            → Runs now mid (Ok s.Spent) count (piece count) r r' d d'
            → GrewByPrefix mid.history new.history spoken → So old new (Err fault) r' d' steps
        unsaid-at fault zero paused other first few used ran part =
            absurd (never-at-once paused first)
        unsaid-at fault (suc more) paused other first few used ran part =
            fails old new fault r' d' (n + suc more) steps (omega (arith, few, all-steps))
            (line-fails range left more paused (awaiting (suc more) paused first) mid s.Spent r' d'
            ran new other used part)

        pub line_fails : (fault : ConsoleFault) (paused : Paused)
            → ((other : Stop) → paused ≡ p.Stopped other → ⊥) → Stepped mid (Ok paused) r' d'
            → GrewByPrefix mid.history new.history spoken → So old new (Err fault) r' d' steps
        line_fails fault paused other g part =
            unsaid-at fault g.count g.paused (λ stop is. other stop (g.answer ∙ is)) g.first g.few
            g.used
            (subst (λ y. Runs now mid (Ok y) g.count (piece g.count) r r' d d')
            (spent-in paused other) g.runs) part
