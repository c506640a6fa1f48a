-- The loop of `count_calls`: how far it got, a call more, and what is left where it stopped or failed,
-- wherever the console's lines are known.
use Rattle.std.proofs.Common.{◌≡◌, ◌∙◌, ℕ, ◌+◌, ◌-◌, ◌<◌, ◌≤◌, List, ◌++◌, Option, Some, None, Ok, Err, IfSome, refl, sym, ap, subst, arith, append-nil}
use Rattle.adv_draws.specs.Supply.{Supply}
use Rattle.adv_counts.specs.Counts.{counted}
use Rattle.adv_counts.specs.Laws.{CountsAdd}
use Rattle.adv_io.specs.Console.{ConsoleView}
use Rattle.adv_io.specs.declared.faults.ConsoleFault.{ConsoleFault}
use Rattle.inform_meaning.specs.Frames as f
use Rattle.inform_meaning.specs.Runs.{Lacking}
use Rattle.inform_entered.specs.Entered.{open_routines}
use Rattle.inform_steps.specs.Laws.{PiecesJoin, EnteredJoin, SpentGoesOn, StoppedStays, StoppedEntersNothing}
use Rattle.inform_run.specs.declared.runners.Runner.{Runner}
use Rattle.inform_run.specs.declared.stops.Stop.{Stop}
use Rattle.inform_run.specs.declared.stops.Stop.TheVariants as v
use Rattle.inform_run.specs.Runners.{program_run, begun_in, left_to, resumed, Runs, RunsToCall}
use Rattle.inform_run.specs.Stops.{stop_seen}
use Rattle.adv_coverage.specs.Calls.{entered_by, entered_since}
use Rattle.adv_coverage.proofs.Pieces.{on-there, runs-on, enters-more, enters-on, runs-out, enters-out, fails-on}

-- where something is known, what holds of each such thing
pub known : {X : Type 0} (P : X → Type 0) (o : Option X) (x : X) → o ≡ Some x → IfSome o P → P x
known P o x is h = subst (λ o. IfSome o P) is h

pub if-known : {X : Type 0} (P : X → Type 0) (o : Option X) → ((x : X) → o ≡ Some x → P x)
    → IfSome o P
if-known P None h = tt
if-known P (Some x) h = h x refl

-- only a spent run is seen as one
pub is-spent : (stop : Stop) → stop_seen stop ≡ Lacking f.Spent → stop ≡ v.Spent
is-spent v.Quit is = absurd (cc)
is-spent v.NeedsLine is = absurd (cc)
is-spent v.NeedsDraw is = absurd (cc)
is-spent (v.Trap kind at) is = absurd (cc)
is-spent v.Spent is = refl

-- the laws on which the loop stands
pub record Laws : Type 0 where
  pub adds : CountsAdd
  pub joins : PiecesJoin
  pub enters : EnteredJoin
  pub spends : SpentGoesOn
  pub stays : StoppedStays
  pub nothing : StoppedEntersNothing

module _ (old : ConsoleView) (lines : List (List ℕ)) (steps : ℕ) (r0 : Runner) (s0 : Supply)
    (counts0 : List ℕ) where
  -- how far it got: a run with so many steps, that counts what it entered, and at least so many
  pub record Sofar (now : ConsoleView) (stop : Stop) (least : ℕ) (r : Runner) (s : Supply)
      (counts : List ℕ) : Type 0 where
    pub count : ℕ
    pub enough : least ≤ count
    pub few : count ≤ steps
    pub used : r.used ≡ r0.used + count
    pub runs : Runs old now (Ok stop) count (resumed r0 count lines s0.left) r0 r s0 s
    pub counts_are : counts ≡ counted (entered_by r0 count lines s0.left) counts0

  -- what is to hold at the end
  pub record Ended (now : ConsoleView) (stop : Stop) (r : Runner) (s : Supply) (counts : List ℕ)
      : Type 0 where
    pub runs : Runs old now (Ok stop) steps (resumed r0 steps lines s0.left) r0 r s0 s
    pub counts_are : counts ≡ counted (entered_by r0 steps lines s0.left) counts0

module _ (laws : Laws) (old : ConsoleView) (lines : List (List ℕ)) (steps : ℕ) (r0 : Runner)
    (s0 : Supply) (counts0 : List ℕ) where
  abbrev Far : ConsoleView → Stop → ℕ → Runner → Supply → List ℕ → Type 0
  Far = Sofar old lines steps r0 s0 counts0

  abbrev Done : ConsoleView → Stop → Runner → Supply → List ℕ → Type 0
  Done = Ended old lines steps r0 s0 counts0

  -- up to the first call
  pub began : (now : ConsoleView) (stop : Stop) (r : Runner) (s : Supply)
      → RunsToCall old now (Ok stop) steps lines r0 r s0 s → Far now stop 0 r s counts0
  began now stop r s to = record {
    count = to.count;
    enough = omega arith;
    few = to.few;
    used = to.used;
    runs = to.runs;
    counts_are = sym (ap (λ ds. counted ds counts0) to.none);
  }

  pub breaks-first : (now : ConsoleView) (fault : ConsoleFault) (r : Runner) (s : Supply)
      → RunsToCall old now (Err fault) steps lines r0 r s0 s
      → Runs old now (Err fault) steps (resumed r0 steps lines s0.left) r0 r s0 s
  breaks-first now fault r s to =
      let all : to.count + (steps - to.count) ≡ steps = omega (arith, to.few) in
      subst (λ n. Runs old now (Err fault) n (resumed r0 n lines s0.left) r0 r s0 s) all
      (fails-on laws.joins old now fault r0 r s0 s lines to.count (steps - to.count) to.runs)

  -- a fault after some steps
  failed : (now : ConsoleView) (fault : ConsoleFault) (r : Runner) (s : Supply) (n : ℕ) → n ≤ steps
      → Runs old now (Err fault) n (resumed r0 n lines s0.left) r0 r s0 s
      → Runs old now (Err fault) steps (resumed r0 steps lines s0.left) r0 r s0 s
  failed now fault r s n few runs =
      let all : n + (steps - n) ≡ steps = omega (arith, few) in
      subst (λ n. Runs old now (Err fault) n (resumed r0 n lines s0.left) r0 r s0 s) all
      (fails-on laws.joins old now fault r0 r s0 s lines n (steps - n) runs)

  module _ (mid new : ConsoleView) (stop : Stop) (least : ℕ) (r r' : Runner) (s s' : Supply)
      (counts counts' : List ℕ) (same : program_run r ≡ program_run r0)
      (so : Far mid stop least r s counts) where
    -- the lines that are left then
    abbrev pub left_then : List (List ℕ)
    left_then = (resumed r0 so.count lines s0.left).1.lines

    -- a step that is counted
    pub steps-on : (stepped : Stop) → stop ≡ v.Spent → r.used < r0.used + steps
        → Runs mid new (Ok stepped) 1 (resumed r 1 left_then s.left) r r' s s'
        → counts' ≡ counted (entered_since (open_routines (begun_in r)) r') counts
        → Far new stepped (least + 1) r' s' counts'
    steps-on stepped spent room step counted-now =
        let k = so.count in
        let runs = runs-on laws.joins old mid new (Ok stepped) r0 r r' s0 s s' lines k stop same
        so.runs 1 step in
        let since = entered_since (open_routines (begun_in r)) r' in
        let is = sym so.runs.leaves.stop ∙ ap stop_seen spent in
        let taken = (laws.spends (program_run r0) (begun_in r0) (left_to r0 k lines s0.left) k 0
        is).1 in
        let there = on-there laws.joins old mid new (Ok stepped) r0 r r' s0 s s' lines k stop same
        so.runs 1 in
        record {
          count = k + 1;
          enough = omega (arith, so.enough);
          few = omega (arith, so.used, room);
          used = omega (arith, step.leaves.used, ap (λ t. t.1.steps) there, taken, so.used);
          runs = runs;
          counts_are = counted-now ∙ ap (counted since) so.counts_are
              ∙ sym (laws.adds (entered_by r0 k lines s0.left) since counts0)
              ∙ ap (λ ds. counted ds counts0) (sym (enters-on laws.joins old mid new (Ok stepped)
              r0 r r' s0 s s' lines k stop same so.runs stepped runs.leaves));
        }

    pub step-fails : (fault : ConsoleFault) → r.used < r0.used + steps
        → Runs mid new (Err fault) 1 (resumed r 1 left_then s.left) r r' s s'
        → Runs old new (Err fault) steps (resumed r0 steps lines s0.left) r0 r' s0 s'
    step-fails fault room step = failed new fault r' s' (so.count + 1) (omega (arith, so.used, room))
        (runs-on laws.joins old mid new (Err fault) r0 r r' s0 s s' lines so.count stop same so.runs
        1 step)

    -- up to the next call
    pub leads-on : (next : Stop) (more : ℕ) → r.used + more ≤ r0.used + steps
        → RunsToCall mid new (Ok next) more left_then r r' s s' → Far new next least r' s' counts
    leads-on next more room to =
        let k = so.count in
        record {
          count = k + to.count;
          enough = omega (arith, so.enough);
          few = omega (arith, so.used, room, to.few);
          used = omega (arith, so.used, to.used);
          runs = runs-on laws.joins old mid new (Ok next) r0 r r' s0 s s' lines k stop same so.runs
              to.count to.runs;
          counts_are = so.counts_are ∙ ap (λ ds. counted ds counts0)
              (sym (enters-more laws.joins old mid new (Ok next) r0 r r' s0 s s' lines k stop same
              so.runs to.count laws.enters
              ∙ ap (λ xs. entered_by r0 k lines s0.left ++ xs) to.none
              ∙ append-nil (entered_by r0 k lines s0.left)));
        }

    pub leads-fails : (fault : ConsoleFault) (more : ℕ) → r.used + more ≤ r0.used + steps
        → RunsToCall mid new (Err fault) more left_then r r' s s'
        → Runs old new (Err fault) steps (resumed r0 steps lines s0.left) r0 r' s0 s'
    leads-fails fault more room to = failed new fault r' s' (so.count + to.count)
        (omega (arith, so.used, room, to.few))
        (runs-on laws.joins old mid new (Err fault) r0 r r' s0 s s' lines so.count stop same so.runs
        to.count to.runs)

  -- ---- the end

  module _ (now : ConsoleView) (stop : Stop) (least : ℕ) (r : Runner) (s : Supply)
      (counts : List ℕ) (so : Far now stop least r s counts) where
    pub stops : (stop ≡ v.Spent → ⊥) → Done now stop r s counts
    stops other =
        let k = so.count in
        let more = steps - k in
        let all : k + more ≡ steps = omega (arith, so.few) in
        let over : stop_seen stop ≡ Lacking f.Spent → ⊥ = λ is. other (is-spent stop is) in
        record {
          runs = subst (λ n. Runs old now (Ok stop) n (resumed r0 n lines s0.left) r0 r s0 s) all
              (runs-out laws.stays laws.nothing old now r0 r s0 s lines k more stop so.runs over);
          counts_are = so.counts_are ∙ ap (λ ds. counted ds counts0)
              (sym (enters-out laws.stays laws.nothing old now r0 r s0 s lines k more stop so.runs
              over) ∙ ap (λ n. entered_by r0 n lines s0.left) all);
        }

    pub uses-all : so.count ≡ steps → Done now stop r s counts
    uses-all all = record {
      runs = subst (λ n. Runs old now (Ok stop) n (resumed r0 n lines s0.left) r0 r s0 s) all
          so.runs;
      counts_are = so.counts_are
          ∙ ap (λ n. counted (entered_by r0 n lines s0.left) counts0) all;
    }
