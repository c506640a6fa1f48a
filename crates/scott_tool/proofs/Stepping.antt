-- That a run with a line at each pause shows what is expected, and ends as it does.
use Rattle.std.proofs.Common.{◌≡◌, ◌∙◌, ℕ, List, IfSome, Result, Ok, Err, MatchResult, ap, subst}
use Rattle.adv_draws.specs.Supply.{Supply}
use Rattle.adv_io.specs.declared.events.Event.{Event}
use Rattle.adv_io.specs.declared.faults.ConsoleFault.{ConsoleFault}
use Rattle.adv_io.specs.Console.{ConsoleView, Speaks}
use Rattle.adv_io.specs.Faults.{HasCause}
use Rattle.adv_io.specs.History.{says, grown, shown, GrewByPrefix}
use Rattle.adv_io.specs.Shelf.{ShelfView}
use Rattle.adv_io.specs.Steps.{trace_of}
use Rattle.inform_meaning.specs.Frames as f
use Rattle.inform_meaning.specs.Programs.{routine_named, body_of, opening, opening_world, program_in, no_notes}
use Rattle.inform_meaning.specs.Runs.{main_begun, stop_of}
use Rattle.inform_meaning.specs.Worlds as w
use Rattle.inform_names.specs.Acceptance.{main}
use Rattle.inform_names.specs.Views.{directives_of}
use Rattle.inform_names.specs.declared.accepted.Accepted.{Accepted}
use Rattle.inform_worlds.specs.Worlds.{program_of}
use Rattle.inform_run.specs.declared.runners.Runner.{Runner}
use Rattle.inform_run.specs.declared.stops.Stop as s
use Rattle.inform_run.specs.Runners.{program_run, begun_in, world_in, resumed}
use Rattle.inform_run.specs.Stops.{stop_seen}
use Rattle.inform_stepper.specs.declared.repeats.Pausing.{Pausing}
use Rattle.inform_stepper.specs.Laws.{StepsAreShown}
use Rattle.inform_stepper.specs.Repeats.{waited, globals_of, shown_with_pauses, RunsShowing}
use Rattle.inform_stepper.specs.Shown.{step_shown, pause_text}
use Rattle.inform_tree.specs.declared.widths.Width.{Width}
use Rattle.inform_tree.specs.Programs.{DirectiveTree}
use Rattle.scott_tool.specs.Obeying.{Obeys}
use Rattle.scott_tool.specs.Run.{ran, stop_line, stop_status}
use Rattle.scott_tool.specs.Step.{run_with_lines, run_without_lines}
use Rattle.scott_tool.specs.Work.{step_task}
use Rattle.scott_tool.proofs.Obeying.{where_known}
use Rattle.scott_tool.proofs.Running.{resumed_is, obeys-concluded, obeys-failed}

-- the events of the steps, one after the other, are what a run shows
pub without_lines : StepsAreShown → (width : Width) (p : List DirectiveTree) (steps : ℕ)
    (draws : List ℕ) (lines : List (List ℕ)) → run_without_lines width p steps draws lines
    ≡ shown (trace_of (ran width p steps lines draws).1.past)
without_lines law width p steps draws lines =
    law (program_in width p no_notes) (main_begun (body_of (routine_named width p main)))
    (opening width p steps lines draws) steps

-- a runner at the beginning of its program
module _ (shelf : ShelfView) (old mid : ConsoleView) (status : ℕ) (a : Accepted) (r after : Runner)
    (before now : Supply) (steps : ℕ) (pausing : Pausing)
    (program : program_run r ≡ program_of a)
    (begun : begun_in r ≡ main_begun (body_of (routine_named a.width (directives_of a) main)))
    (world : world_in r ≡ opening_world a.width (directives_of a)
    (routine_named a.width (directives_of a) main)) (unused : r.used ≡ 0) where
  abbrev p : List DirectiveTree
  p = directives_of a

  same : (n : ℕ) (lines : List (List ℕ))
      → resumed r n lines before.left ≡ ran a.width p n lines before.left
  same n lines = resumed_is r a n lines before.left program begun world

  abbrev seen : List (List ℕ) → List Event
  seen lines = run_with_lines a.width p steps pausing before.left lines

  abbrev shown_by_runner : List (List ℕ) → List Event
  shown_by_runner lines = shown_with_pauses a pausing r steps lines before.left

  same_seen : (lines : List (List ℕ)) → shown_by_runner lines ≡ seen lines
  same_seen lines =
      λ i. step_shown (pause_text (waited pausing) (globals_of p) (unused i) (λ n. same n lines i))
      (λ n. same n lines i) steps

  abbrev Went : Result s.Stop ConsoleFault → List (List ℕ) → Type 0
  Went result lines =
      RunsShowing old mid result (shown_by_runner lines) steps (resumed r steps lines before.left) r
      after before now

  abbrev Caused : Result s.Stop ConsoleFault → Type 0
  Caused result = HasCause old.faults mid.faults result

  -- it ran, and then its line was said
  pub obeys-stepped : (new : ConsoleView) (stop : s.Stop) {T E : Type 0} (said : Result T E)
      → IfSome old.left (Went (Ok stop)) → Caused (Ok stop)
      → Speaks mid new said (says (stop_line p (stop_seen stop)))
      → MatchResult said (λ _. status ≡ stop_status (stop_seen stop)) (λ _. status ≡ 3)
      → Obeys shelf shelf old new (Ok (step_task a.width p steps pausing before.left)) status
  obeys-stepped new stop said went cause speaks is =
      obeys-concluded shelf old new status a.width p before.left steps seen mid (stop_seen stop)
      said
      (where_known (Went (Ok stop))
      (λ lines. (mid.history ≡ grown old.history (seen lines))
      × (stop_seen stop ≡ stop_of (ran a.width p steps lines before.left).0))
      (λ lines h. (
        h.shows ∙ ap (grown old.history) (same_seen lines),
        h.leaves.stop
            ∙ ap (λ (t : f.Outcome × w.Config). stop_of t.0) (same steps lines),
      )) old.left went)
      cause.steady speaks is

  -- the console failed as it ran
  pub obeys-step_failed : (fault : ConsoleFault) → IfSome old.left (Went (Err fault))
      → Caused (Err fault) → status ≡ 3
      → Obeys shelf shelf old mid (Ok (step_task a.width p steps pausing before.left)) status
  obeys-step_failed fault went cause three =
      obeys-failed shelf old mid status a.width p before.left steps seen three cause.failed
      cause.later
      (where_known (Went (Err fault)) (λ lines. GrewByPrefix old.history mid.history (seen lines))
      (λ lines h. subst (GrewByPrefix old.history mid.history) (same_seen lines) h.part) old.left
      went)
