-- That a run of which it is told what it entered does what is expected.
use Rattle.std.proofs.Common.{◌≡◌, ◌∙◌, ◌≤◌, ℕ, List, ◌∷◌, [], ◌++◌, length, replicate, None, IfSome, Result, Ok, Err, MatchResult, refl, sym, ap, subst, inl, inr, arith, lit<}
use Rattle.std.specs.Prelude.{Contains}
use Rattle.adv_counts.specs.Counts.{counted}
use Rattle.adv_coverage.specs.Calls.{entered_by, IsAtOpening, EnteredFromOpening}
use Rattle.adv_draws.specs.Supply.{Supply}
use Rattle.adv_io.specs.Console.{ConsoleView, Speaks}
use Rattle.adv_io.specs.Faults.{Rose, HasCause}
use Rattle.adv_io.specs.History.{says, grown, GrewByPrefix, shown}
use Rattle.adv_io.specs.Shelf.{ShelfView}
use Rattle.adv_io.specs.Steps.{trace_of}
use Rattle.adv_io.specs.declared.events.Event.{Event}
use Rattle.adv_io.specs.declared.faults.ConsoleFault.{ConsoleFault}
use Rattle.adv_io.proofs.Sayings.{grown_on, part_on, part_of_more}
use Rattle.inform_entered.specs.Entered.{entered}
use Rattle.inform_meaning.specs.Frames as f
use Rattle.inform_meaning.specs.Runs.{Stop, stop_of}
use Rattle.inform_meaning.specs.Worlds as w
use Rattle.inform_names.specs.Views.{directives_of}
use Rattle.inform_names.specs.declared.accepted.Accepted.{Accepted}
use Rattle.inform_run.specs.declared.runners.Runner.{Runner}
use Rattle.inform_run.specs.declared.stops.Stop as s
use Rattle.inform_run.specs.Runners.{resumed, Runs}
use Rattle.inform_run.specs.Stops.{stop_seen}
use Rattle.inform_tree.specs.declared.widths.Width.{Width}
use Rattle.inform_tree.specs.Programs.{DirectiveTree}
use Rattle.scott_tool.specs.Calls.{entered_counts, calls_end}
use Rattle.scott_tool.specs.Obeying as o
use Rattle.scott_tool.specs.Obeying.{Answers, MayTake, SaysReport, Obeys}
use Rattle.scott_tool.specs.Outcome.{Outcome, whole, cut_short}
use Rattle.scott_tool.specs.Promises.{IsEnd}
use Rattle.scott_tool.specs.Run.{ran, stop_after, stop_status}
use Rattle.scott_tool.specs.Work.{Task, shown_as, calls_show, calls_task}
use Rattle.scott_tool.proofs.Keeping.{obeys-broken}
use Rattle.scott_tool.proofs.Obeying.{where_known, where_both}
use Rattle.scott_tool.proofs.Running.{end_of_stop, resumed_is}
use Rattle.scott_tool.proofs.Statuses.{end_is}

abbrev report_late : List ℕ
report_late = 9 ∷ []

late_9 : Contains report_late 9
late_9 = (0, lit< tt, refl)

-- a run's end is a status with which lines may have been taken
taken-at_end : (status : ℕ) → IsEnd status → MayTake report_late status
taken-at_end status (inl e) = inl e
taken-at_end status (inr (inl e)) = inr (inr (inl e))
taken-at_end status (inr (inr e)) = inr (inr (inr (inl e)))

module _ (shelf : ShelfView) (old mid : ConsoleView) (width : Width) (p : List DirectiveTree)
    (draws : List ℕ) (steps : ℕ) where
  abbrev task : Task
  task = calls_task width p steps draws

  abbrev ran_with : List (List ℕ) → f.Outcome × w.Config
  ran_with lines = ran width p steps lines draws

  abbrev ends : List (List ℕ) → Outcome
  ends lines = shown_as (calls_show width p steps draws)
      (stop_status (stop_after width p steps lines draws)) None lines

  abbrev seen_of : List (List ℕ) → List Event
  seen_of lines = shown (trace_of (ran_with lines).1.past)

  abbrev end_of : List (List ℕ) → List ℕ
  end_of lines = calls_end width p (stop_after width p steps lines draws)
      (entered_counts width p steps lines draws)

  -- the console failed as it ran
  pub obeys-calls_broken : (status : ℕ) → status ≡ 3 → Rose old.faults mid.faults
      → old.faults ≤ mid.faults
      → IfSome old.left (λ lines. GrewByPrefix old.history mid.history (seen_of lines))
      → Obeys shelf shelf old mid (Ok task) status
  obeys-calls_broken status three failed later part =
      obeys-broken shelf old mid status task ends (λ lines. refl) three later failed
      (where_known (λ lines. GrewByPrefix old.history mid.history (seen_of lines))
      (λ lines. GrewByPrefix old.history mid.history (ends lines).events)
      (λ lines h. part_of_more old.history mid.history (seen_of lines) (says (end_of lines)) h)
      old.left part)

  -- what the run has shown, why it stopped, and what was counted
  abbrev Went : Stop → List ℕ → List (List ℕ) → Type 0
  Went stop counts lines =
      (mid.history ≡ grown old.history (seen_of lines))
      × (stop ≡ stop_of (ran_with lines).0)
      × (counts ≡ entered_counts width p steps lines draws)

  module _ (new : ConsoleView) (status : ℕ) (stop : Stop) (counts : List ℕ)
      (steady : mid.faults ≡ old.faults) (went : IfSome old.left (Went stop counts)) where
    abbrev text : List ℕ
    text = calls_end width p stop counts

    abbrev Answered : List (List ℕ) → Type 0
    Answered lines = Answers shelf shelf old new lines (Ok task) status

    -- what is said is what is expected
    same_text : (lines : List (List ℕ)) → Went stop counts lines → text ≡ end_of lines
    same_text lines h =
        ap (λ s. calls_end width p s counts) h.1
        ∙ ap (calls_end width p (stop_of (ran_with lines).0)) h.2

    said : (result : Result Unit ConsoleFault) → Speaks mid new result (says text)
        → MatchResult result (λ _. status ≡ stop_status stop) (λ _. status ≡ 3)
        → Obeys shelf shelf old new (Ok task) status
    said (Ok value) speaks is =
        let stays : new.faults ≡ old.faults = speaks.cause.steady ∙ steady in
        let end = subst IsEnd (sym is) (end_of_stop stop) in record {
          answered = where_known (Went stop counts) Answered (λ lines h. inl (
            ends lines,
            refl,
            whole (is ∙ ap stop_status h.1)
                (grown_on old.history mid.history new.history (seen_of lines) (says text) h.0
                speaks.said
                ∙ ap (λ t. grown old.history (seen_of lines ++ says t)) (same_text lines h))
                refl,
          )) old.left went;
          stands = inl (end_is status end);
          silent = λ quiet f. absurd (quiet late_9);
          lines = inl (taken-at_end status end);
          files = refl;
          shelf_later = omega arith;
          later = omega (arith, stays);
          shelf_stays = inr (inr refl);
          console_stays = inr stays;
        }
    said (Err fault) speaks three =
        let failed : Rose old.faults new.faults =
        subst (λ (n : ℕ). Rose n new.faults) steady speaks.cause.failed in
        let more = speaks.cause.later in
        obeys-broken shelf old new status task ends (λ lines. refl) three
        (omega (arith, steady, more)) failed
        (where_known (Went stop counts)
        (λ lines. GrewByPrefix old.history new.history (ends lines).events)
        (λ lines h. part_on old.history mid.history new.history (seen_of lines)
        (says (end_of lines)) h.0
        (subst (λ (t : List ℕ). GrewByPrefix mid.history new.history (says t)) (same_text lines h)
        speaks.part)) old.left went)

    unsaid_report : new ≡ mid → status ≡ 9 → Obeys shelf shelf old new (Ok task) status
    unsaid_report same_console nine =
        let stays : new.faults ≡ old.faults = ap (λ c. c.faults) same_console ∙ steady in record {
          answered = where_known (Went stop counts) Answered (λ lines h. inl (
            ends lines,
            refl,
            cut_short nine (ap (λ c. c.history) same_console ∙ h.0) refl,
          )) old.left went;
          stands = inr (inl nine);
          silent = λ quiet f. absurd (quiet late_9);
          lines = inl (inr (inr (inr (inr (subst (Contains report_late) (sym nine) late_9)))));
          files = refl;
          shelf_later = omega arith;
          later = omega (arith, stays);
          shelf_stays = inr (inr refl);
          console_stays = inr stays;
        }

    -- a run that was shown, and then the report or its line, if there was memory for it
    pub obeys-called : SaysReport mid new text (stop_status stop) status
        → Obeys shelf shelf old new (Ok task) status
    obeys-called (o.reported result speaks is_status) = said result speaks is_status
    obeys-called (o.unreported same_console nine) = unsaid_report same_console nine

-- ---- a runner that stands at the opening of its program

module _ (shelf : ShelfView) (old mid : ConsoleView) (a : Accepted) (r after : Runner)
    (before now : Supply) (steps : ℕ) (zeros : List ℕ) (at : IsAtOpening a r)
    (law : EnteredFromOpening) (none : zeros ≡ replicate (length (directives_of a)) 0) where
  abbrev p : List DirectiveTree
  p = directives_of a

  same : (lines : List (List ℕ))
      → resumed r steps lines before.left ≡ ran a.width p steps lines before.left
  same lines = resumed_is r a steps lines before.left at.program at.begun at.world

  abbrev Ran : Result s.Stop ConsoleFault → List (List ℕ) → Type 0
  Ran result lines = Runs old mid result steps (resumed r steps lines before.left) r after before
      now

  abbrev Tallied : List ℕ → List (List ℕ) → Type 0
  Tallied counts lines = counts ≡ counted (entered_by r steps lines before.left) zeros

  -- what was counted is what the program enters from its beginning
  all_counts : (counts : List ℕ) (lines : List (List ℕ)) → Tallied counts lines
      → counts ≡ entered_counts a.width p steps lines before.left
  all_counts counts lines h =
      h ∙ ap (λ ns. counted ns zeros) (law a r steps lines before.left at)
      ∙ ap (counted (entered a.width p steps lines before.left)) none

  -- it ran, and then the report or its line was said
  pub obeys-counted : (new : ConsoleView) (status : ℕ) (stop : s.Stop) (counts : List ℕ)
      → IfSome old.left (Ran (Ok stop)) → IfSome old.left (Tallied counts)
      → HasCause {T = s.Stop} {E = ConsoleFault} old.faults mid.faults (Ok stop)
      → SaysReport mid new (calls_end a.width p (stop_seen stop) counts)
      (stop_status (stop_seen stop)) status
      → Obeys shelf shelf old new (Ok (calls_task a.width p steps before.left)) status
  obeys-counted new status stop counts runs tallied cause says_report =
      obeys-called shelf old mid a.width p before.left steps new status (stop_seen stop) counts
      cause.steady
      (where_both old.left (Ran (Ok stop)) (Tallied counts)
      (Went shelf old mid a.width p before.left steps (stop_seen stop) counts)
      (λ lines h t. (
        h.shows ∙ ap (λ (u : f.Outcome × w.Config). grown old.history (shown (trace_of u.1.past)))
            (same lines),
        h.leaves.stop ∙ ap (λ (u : f.Outcome × w.Config). stop_of u.0) (same lines),
        all_counts counts lines t,
      )) runs tallied) says_report

  -- the console failed as it ran
  pub obeys-uncounted : (fault : ConsoleFault) (status : ℕ) → IfSome old.left (Ran (Err fault))
      → HasCause {T = s.Stop} old.faults mid.faults (Err fault) → status ≡ 3
      → Obeys shelf shelf old mid (Ok (calls_task a.width p steps before.left)) status
  obeys-uncounted fault status runs cause three =
      obeys-calls_broken shelf old mid a.width p before.left steps status three cause.failed
      cause.later
      (where_known (Ran (Err fault)) (λ lines. GrewByPrefix old.history mid.history
      (shown (trace_of (ran a.width p steps lines before.left).1.past)))
      (λ lines h. subst (λ (u : f.Outcome × w.Config). GrewByPrefix old.history mid.history
      (shown (trace_of u.1.past))) (same lines) h.part) old.left runs)
