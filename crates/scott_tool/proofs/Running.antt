-- That a run shows what is expected, and ends as it does.
use Rattle.std.proofs.Common.{◌≡◌, ◌∙◌, ◌≤◌, ℕ, List, [], ◌++◌, IfSome, Result, Ok, Err, MatchResult, refl, sym, ap, subst, inl, inr, arith}
use Rattle.adv_io.specs.Console.{Speaks}
use Rattle.adv_io.specs.History.{says, shown}
use Rattle.adv_io.specs.Steps.{trace_of}
use Rattle.adv_io.proofs.Sayings.{grown_on, part_on, part_of_more}
use Rattle.inform_meaning.specs.Frames as f
use Rattle.inform_meaning.specs.Programs.{routine_named, body_of, opening_world}
use Rattle.inform_meaning.specs.Runs.{Stop, Halted, Lacking, main_begun, resume, stop_of}
use Rattle.inform_names.specs.Acceptance.{main}
use Rattle.inform_names.specs.Views.{directives_of}
use Rattle.inform_names.specs.declared.accepted.Accepted.{Accepted}
use Rattle.inform_worlds.specs.Worlds.{program_of}
use Rattle.inform_run.specs.declared.runners.Runner.{Runner}
use Rattle.inform_run.specs.Runners.{program_run, begun_in, world_in, resumed, Runs}
use Rattle.adv_io.specs.declared.events.Event.{Event}
use Rattle.adv_io.specs.Console.{ConsoleView}
use Rattle.adv_draws.specs.Supply.{Supply}
use Rattle.adv_io.specs.Faults.{HasCause, Rose}
use Rattle.adv_io.specs.declared.faults.ConsoleFault.{ConsoleFault}
use Rattle.inform_meaning.specs.Worlds as w
use Rattle.inform_run.specs.declared.stops.Stop as s
use Rattle.inform_run.specs.Stops.{stop_seen}
use Rattle.adv_io.specs.History.{grown, GrewByPrefix}
use Rattle.adv_io.specs.Shelf.{ShelfView}
use Rattle.inform_tree.specs.declared.widths.Width.{Width}
use Rattle.inform_tree.specs.Programs.{DirectiveTree}
use Rattle.scott_tool.specs.Outcome.{ended, whole, unsaid}
use Rattle.scott_tool.specs.Run.{ran, stop_after, stop_status, stop_line}
use Rattle.scott_tool.specs.Work.{Task, running, showing, run_task}
use Rattle.scott_tool.specs.Obeying.{Obeys, Answers}
use Rattle.scott_tool.specs.Promises.{IsEnd}
use Rattle.scott_tool.proofs.Statuses.{end_is, not_end}
use Rattle.scott_tool.proofs.Obeying.{where_known}

-- each way to stop is an end
pub end_of_stop : (stop : Stop) → IsEnd (stop_status stop)
end_of_stop (Halted f.Quits) = inl refl
end_of_stop (Halted (f.Trapped trap at)) = inr (inl refl)
end_of_stop (Lacking f.NeedsLine) = inl refl
end_of_stop (Lacking f.NeedsDraw) = inl refl
end_of_stop (Lacking f.Spent) = inr (inr refl)

-- what is shown of a run, by its lines, and after that its line
module _ (shelf : ShelfView) (old new : ConsoleView) (status : ℕ) (width : Width)
    (p : List DirectiveTree) (draws : List ℕ) (steps : ℕ)
    (seen_of : List (List ℕ) → List Event) where
  abbrev events : List (List ℕ) → List Event
  events lines = seen_of lines ++ says (stop_line p (stop_after width p steps lines draws))

  abbrev ending : List (List ℕ) → ℕ
  ending lines = stop_status (stop_after width p steps lines draws)

  abbrev task : Task
  task = running ending (showing events)

  -- all was shown
  pub obeys-ran : IsEnd status → IfSome old.left (λ lines. (status ≡ ending lines) ×
      (new.history ≡ grown old.history (events lines)))
      → new.faults ≡ old.faults → Obeys shelf shelf old new (Ok task) status
  obeys-ran end shown same = record {
    answered = where_known (λ lines. (status ≡ ending lines) ×
        (new.history ≡ grown old.history (events lines)))
        (λ lines. Answers shelf shelf old new lines (Ok task) status)
        (λ lines h. inl (ended (ending lines) (events lines), refl, whole h.0 h.1 refl))
        old.left shown;
    stands = inl (end_is status end);
    silent = λ quiet e. absurd (not_end status 9 end (λ f. omega arith) (λ f. omega arith)
        (λ f. omega arith) e);
    lines = inl (elim end [
      | inl e ↦ inl e
      | inr (inl e) ↦ inr (inr (inl e))
      | inr (inr e) ↦ inr
          (inr (inr (inl e)))
    ]);
    files = refl;
    shelf_later = omega arith;
    later = omega (arith, same);
    shelf_stays = inr (inr refl);
    console_stays = inr same;
  }

  -- the console failed
  pub obeys-broke : status ≡ 3 → Rose old.faults new.faults → old.faults ≤ new.faults
      → IfSome old.left (λ lines. GrewByPrefix old.history new.history (events lines))
      → Obeys shelf shelf old new (Ok task) status
  obeys-broke three failed later part = record {
    answered = where_known (λ lines. GrewByPrefix old.history new.history (events lines))
        (λ lines. Answers shelf shelf old new lines (Ok task) status)
        (λ lines h. inl (
          ended (ending lines) (events lines),
          refl,
          unsaid three failed h
              refl,
        )) old.left part;
    stands = inr (inr (inl (three, failed)));
    silent = λ quiet e. absurd (omega arith);
    lines = inl (inr (inl three));
    files = refl;
    shelf_later = omega arith;
    later = later;
    shelf_stays = inr (inr refl);
    console_stays = inl three;
  }

  -- ---- a run, and then its line

  module _ (mid : ConsoleView) (stop : Stop) where
    -- what the run has shown, and why it stopped
    abbrev Showed : List (List ℕ) → Type 0
    Showed lines = (mid.history ≡ grown old.history (seen_of lines)) ×
        (stop ≡ stop_of (ran width p steps lines draws).0)

    abbrev line : List Event
    line = says (stop_line p stop)

    pub obeys-concluded : {T E : Type 0} (said : Result T E) → IfSome old.left Showed → mid.faults
        ≡ old.faults → Speaks mid new said line
        → MatchResult said (λ _. status ≡ stop_status stop) (λ _. status ≡ 3)
        → Obeys shelf shelf old new (Ok task) status
    obeys-concluded (Ok x) showed same speaks is =
        obeys-ran (subst IsEnd (sym is) (end_of_stop stop))
        (where_known Showed (λ lines. (status ≡ ending lines) ×
        (new.history ≡ grown old.history (events lines)))
        (λ lines h. (
          is ∙ ap stop_status h.1,
          grown_on old.history mid.history new.history (seen_of lines) line h.0 speaks.said
              ∙ ap (λ s. grown old.history (seen_of lines ++ says (stop_line p s))) h.1,
        )) old.left showed)
        (speaks.cause.steady ∙ same)
    obeys-concluded (Err fault) showed same speaks is =
        obeys-broke is (subst (λ (n : ℕ). Rose n new.faults) same speaks.cause.failed)
        (subst (λ (n : ℕ). n ≤ new.faults) same speaks.cause.later)
        (where_known Showed (λ lines. GrewByPrefix old.history new.history (events lines))
        (λ lines h. subst (λ (s : Stop). GrewByPrefix old.history new.history
        (seen_of lines ++ says (stop_line p s))) h.1
        (part_on old.history mid.history new.history (seen_of lines) line h.0 speaks.part)) old.left
        showed)

  -- the console failed as it ran
  pub obeys-failed : status ≡ 3 → Rose old.faults new.faults → old.faults ≤ new.faults
      → IfSome old.left (λ lines. GrewByPrefix old.history new.history (seen_of lines))
      → Obeys shelf shelf old new (Ok task) status
  obeys-failed three failed later part =
      obeys-broke three failed later
      (where_known (λ lines. GrewByPrefix old.history new.history (seen_of lines))
      (λ lines. GrewByPrefix old.history new.history (events lines))
      (λ lines h. part_of_more old.history new.history (seen_of lines)
      (says (stop_line p (stop_of (ran width p steps lines draws).0))) h) old.left part)

-- a runner at the beginning of its program runs it
pub resumed_is : (r : Runner) (a : Accepted) (steps : ℕ) (lines : List (List ℕ)) (draws : List ℕ)
    → program_run r ≡ program_of a
    → begun_in r ≡ main_begun (body_of (routine_named a.width (directives_of a) main))
    → world_in r ≡ opening_world a.width (directives_of a)
    (routine_named a.width (directives_of a) main)
    → resumed r steps lines draws ≡ ran a.width (directives_of a) steps lines draws
resumed_is r a steps lines draws program begun world =
    λ i. resume (program i) (begun i) (record {
      steps = steps;
      lines = lines;
      draws = draws;
      past =
          [];
      world = world i;
    })

module _ (shelf : ShelfView) (old mid : ConsoleView) (status : ℕ) (a : Accepted) (r after : Runner)
    (before now : Supply) (steps : ℕ)
    (program : program_run r ≡ program_of a)
    (begun : begun_in r ≡ main_begun (body_of (routine_named a.width (directives_of a) main)))
    (world : world_in r ≡ opening_world a.width (directives_of a)
    (routine_named a.width (directives_of a) main)) where
  abbrev p : List DirectiveTree
  p = directives_of a

  abbrev of_lines : List (List ℕ) → f.Outcome × w.Config
  of_lines lines = ran a.width p steps lines before.left

  abbrev seen : List (List ℕ) → List Event
  seen lines = shown (trace_of (of_lines lines).1.past)

  same : (lines : List (List ℕ)) → resumed r steps lines before.left ≡ of_lines lines
  same lines = resumed_is r a steps lines before.left program begun world

  abbrev Went : Result s.Stop ConsoleFault → List (List ℕ) → Type 0
  Went result lines = Runs old mid result steps (resumed r steps lines before.left) r after before
      now

  abbrev Caused : Result s.Stop ConsoleFault → Type 0
  Caused result = HasCause old.faults mid.faults result

  -- it ran, and then its line was said
  pub obeys-stopped : (new : ConsoleView) (stop : s.Stop) {T E : Type 0} (said : Result T E)
      → IfSome old.left (Went (Ok stop)) → Caused (Ok stop)
      → Speaks mid new said (says (stop_line p (stop_seen stop)))
      → MatchResult said (λ _. status ≡ stop_status (stop_seen stop)) (λ _. status ≡ 3)
      → Obeys shelf shelf old new (Ok (run_task a.width p steps before.left)) status
  obeys-stopped new stop said went cause speaks is =
      obeys-concluded shelf old new status a.width p before.left steps seen mid (stop_seen stop) said
      (where_known (Went (Ok stop))
      (λ lines. (mid.history ≡ grown old.history (seen lines)) ×
      (stop_seen stop ≡ stop_of (of_lines lines).0))
      (λ lines h. (
        h.shows ∙ ap (λ (t : f.Outcome × w.Config). grown old.history (shown (trace_of t.1.past)))
            (same lines),
        h.leaves.stop ∙ ap (λ (t : f.Outcome × w.Config). stop_of t.0) (same lines),
      )) old.left went)
      cause.steady speaks is

  -- the console failed as it ran
  pub obeys-broken : (fault : ConsoleFault) → IfSome old.left (Went (Err fault)) → Caused
      (Err fault) → status ≡ 3
      → Obeys shelf shelf old mid (Ok (run_task a.width p steps before.left)) status
  obeys-broken fault went cause three =
      obeys-failed shelf old mid status a.width p before.left steps seen three cause.failed
      cause.later
      (where_known (Went (Err fault)) (λ lines. GrewByPrefix old.history mid.history (seen lines))
      (λ lines h. subst (λ (t : f.Outcome × w.Config). GrewByPrefix old.history mid.history
      (shown (trace_of t.1.past))) (same lines) h.part)
      old.left went)
