-- That a run of a runner, and after it a run of what it left, are one run with the steps of both.
use Rattle.std.proofs.Common.{◌≡◌, ◌∙◌, ℕ, ◌+◌, List, [], ◌++◌, length, Some, Result, Ok, Err, sym, ap, subst, arith, length-append}
use Rattle.std.proofs.lemmas.List.Elements.{filter_map-append}
use Rattle.adv_draws.specs.Supply.{Supply}
use Rattle.adv_io.specs.History.{grown, GrewByPrefix, draw_taken, draws_taken}
use Rattle.adv_io.specs.Steps.{Step, shown_of, trace_of}
use Rattle.adv_io.specs.Console.{ConsoleView}
use Rattle.adv_io.specs.declared.faults.ConsoleFault.{ConsoleFault}
use Rattle.adv_io.proofs.Sayings.{grown_on, part_on}
use Rattle.adv_io.proofs.Showing.{trace_of-append, shown_of-append}
use Rattle.inform_meaning.specs.Worlds.{Program, World, Config}
use Rattle.inform_meaning.specs.Frames.{Frame, Outcome}
use Rattle.inform_meaning.specs.Runs.{resume, stop_of, begun_of}
use Rattle.inform_steps.specs.Pieces.{next_piece, Joins}
use Rattle.inform_steps.specs.Laws.{PiecesJoin}
use Rattle.inform_run.specs.declared.runners.Runner.{Runner}
use Rattle.inform_run.specs.declared.stops.Stop.{Stop}
use Rattle.inform_run.specs.Runners.{program_run, begun_in, world_in, left_to, resumed, Leaves, Runs}
use Rattle.inform_stepper.specs.Laws.{RunsJoin}

some-is : {X : Type 0} {a b : X} → Some a ≡ Some b → a ≡ b
some-is e = cc

pub draws_taken-append : (a b : List Step)
    → draws_taken (trace_of (a ++ b)) ≡ draws_taken (trace_of a) ++ draws_taken (trace_of b)
draws_taken-append a b = ap draws_taken (trace_of-append a b)
    ∙ filter_map-append draw_taken (trace_of a) (trace_of b)

-- a run from there, with nothing that happened before
run_with : ℕ → Program → List Frame → World → List ℕ → List (List ℕ) → Outcome × Config
run_with steps p frames w draws lines = resume p frames
    (record { steps = steps; lines = lines; draws = draws; past = []; world = w })

module _ (joins : PiecesJoin) (old mid new : ConsoleView) (first more : ℕ)
    (lines rest : List (List ℕ)) (r0 r1 r2 : Runner) (d0 d1 d2 : Supply) where
  abbrev a : Outcome × Config
  a = resumed r0 first lines d0.left

  abbrev b : Outcome × Config
  b = resumed r1 more rest d1.left

  abbrev second : Outcome × Config
  second = next_piece (program_run r0) a more

  abbrev whole : Outcome × Config
  whole = resumed r0 (first + more) lines d0.left

  same : program_run r1 ≡ program_run r0 → begun_in r1 ≡ begun_of a.0 → world_in r1 ≡ a.1.world
      → d1.left ≡ a.1.draws → rest ≡ a.1.lines → b ≡ second
  unfolding run_with
  same program begun world draws left =
      ap (λ p. run_with more p (begun_in r1) (world_in r1) d1.left rest) program
      ∙ ap (λ fs. run_with more (program_run r0) fs (world_in r1) d1.left rest) begun
      ∙ ap (λ w. run_with more (program_run r0) (begun_of a.0) w d1.left rest) world
      ∙ ap (λ ds. run_with more (program_run r0) (begun_of a.0) a.1.world ds rest) draws
      ∙ ap (λ ls. run_with more (program_run r0) (begun_of a.0) a.1.world a.1.draws ls) left

  module _ (stop : Stop) (f : Runs old mid (Ok stop) first a r0 r1 d0 d1) (is : b ≡ second) where
    j : Joins a second whole
    j = joins (program_run r0) (begun_in r0) (left_to r0 first lines d0.left) first more

    past : whole.1.past ≡ a.1.past ++ b.1.past
    past = ap (λ c. c.past) j.config ∙ ap (λ r. a.1.past ++ r.1.past) (sym is)

    shown-is : shown_of whole.1.past ≡ shown_of a.1.past ++ shown_of b.1.past
    shown-is = ap shown_of past ∙ shown_of-append a.1.past b.1.past

    leaves : (stop' : Stop) → Leaves b more r1 r2 d1 d2 stop'
        → Leaves whole (first + more) r0 r2 d0 d2 stop'
    leaves stop' s =
        let drawn : draws_taken (trace_of whole.1.past)
        ≡ draws_taken (trace_of a.1.past) ++ draws_taken (trace_of b.1.past) =
        ap (λ es. draws_taken (trace_of es)) past ∙ draws_taken-append a.1.past b.1.past in
        let count = length-append (draws_taken (trace_of a.1.past)) (draws_taken (trace_of b.1.past)) in
        let unused : whole.1.steps ≡ a.1.steps + b.1.steps =
        ap (λ c. c.steps) j.config ∙ ap (λ r. a.1.steps + r.1.steps) (sym is) in
        record {
          begun = s.begun ∙ ap (λ r. begun_of r.0) is ∙ sym j.begun;
          world = s.world ∙ ap (λ r. r.1.world) is ∙ sym (ap (λ c. c.world) j.config);
          draws = s.draws ∙ ap (λ r. r.1.draws) is ∙ sym (ap (λ c. c.draws) j.config);
          taken = omega (arith, f.leaves.taken, s.taken, ap length drawn, count);
          used = omega (arith, f.leaves.used, s.used, unused);
          stop = s.stop ∙ ap (λ r. stop_of r.0) is ∙ sym j.stop;
        }

    joined : (result : Result Stop ConsoleFault) → Runs mid new result more b r1 r2 d1 d2
        → Runs old new result (first + more) whole r0 r2 d0 d2
    joined (Ok stop') s = record {
      shows = grown_on old.history mid.history new.history (shown_of a.1.past) (shown_of b.1.past)
          f.shows s.shows ∙ ap (grown old.history) (sym shown-is);
      part = tt;
      lines = s.lines ∙ ap (λ r. Some r.1.lines) is ∙ sym (ap (λ c. Some c.lines) j.config);
      leaves = leaves stop' s.leaves;
    }
    joined (Err fault) s = record {
      shows = tt;
      part = subst (GrewByPrefix old.history new.history) (sym shown-is)
          (part_on old.history mid.history new.history (shown_of a.1.past) (shown_of b.1.past)
          f.shows s.part);
      lines = tt;
      leaves = tt;
    }

pub runs_join : PiecesJoin → RunsJoin
runs_join joins old mid new stop result first more lines rest r0 r1 r2 d0 d1 d2 program left f s =
    joined joins old mid new first more lines rest r0 r1 r2 d0 d1 d2 stop f
    (same joins old mid new first more lines rest r0 r1 r2 d0 d1 d2 program f.leaves.begun
    f.leaves.world f.leaves.draws (some-is (sym left ∙ f.lines)))
    result s
