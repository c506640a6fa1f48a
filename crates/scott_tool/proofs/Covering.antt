-- That a play of which it is told what was tried does what is expected.
use Rattle.std.proofs.Common.{◌≡◌, ◌∙◌, ℕ, List, [], ◌∷◌, ◌++◌, length, None, IfSome, Result, Ok, Err, MatchResult, refl, sym, ap, subst, inl, inr, arith, lit<}
use Rattle.std.specs.Prelude.{Contains}
use Rattle.adv_coverage.specs.Report.{report_text}
use Rattle.adv_draws.specs.Supply.{Supply}
use Rattle.adv_io.specs.Console.{ConsoleView, Speaks}
use Rattle.adv_io.specs.Faults.{Rose, HasCause}
use Rattle.adv_io.specs.History.{says, grown, GrewByPrefix, shown}
use Rattle.adv_io.specs.Shelf.{ShelfView}
use Rattle.adv_io.specs.Steps.{Step, Traced, trace_of}
use Rattle.adv_io.specs.declared.faults.ConsoleFault.{ConsoleFault}
use Rattle.adv_io.proofs.Sayings.{grown_on, part_on, part_of_more}
use Rattle.scott_rules.specs.Play.{PlayEnd, go}
use Rattle.scott_turn.specs.Played.{SessionView, Plays}
use Rattle.scott_turn.specs.Tried.{tallied, untried}
use Rattle.scott_types.specs.declared.endings.Ending.{Ending}
use Rattle.scott_types.specs.declared.endings.Position.{Position}
use Rattle.scott_types.specs.declared.endings.Position.TheVariants.{Fresh}
use Rattle.scott_types.specs.declared.states.State.{State}
use Rattle.scott_types.specs.declared.styles.Style.{Style}
use Rattle.scott_types.specs.Database.{Database}
use Rattle.scott_types.specs.State.{start}
use Rattle.scott_types.specs.Style.{Game, in_style}
use Rattle.scott_tool.specs.Cover.{first_counts, line_counts, covered_play}
use Rattle.scott_tool.specs.Outcome.{Outcome, whole, cut_short}
use Rattle.scott_tool.specs.Work.{Task, shown_as, cover_show, cover_task}
use Rattle.scott_tool.specs.Obeying as o
use Rattle.scott_tool.specs.Obeying.{Answers, SaysReport, Obeys}
use Rattle.scott_tool.proofs.Statuses.{first}
use Rattle.scott_tool.proofs.Obeying.{where_known, where_both}
use Rattle.scott_tool.proofs.Keeping.{obeys-broken}

abbrev report_late : List ℕ
report_late = 9 ∷ []

late_9 : Contains report_late 9
late_9 = (0, lit< tt, refl)

module _ (style : Style) (db : Database) (draws : List ℕ) (game : Game) (position : Position)
    (state : State) (left before_tried : List ℕ) (is : game ≡ in_style style db)
    (at : position ≡ Fresh) (in_state : state ≡ start db) (all : left ≡ draws)
    (none_tried : before_tried ≡ untried db) where
  abbrev task : Task
  task = cover_task style db draws

  abbrev ends : List (List ℕ) → Outcome
  ends lines = shown_as (cover_show style db draws) 0 None lines

  -- what the session plays is the play that is expected
  same : (lines : List (List ℕ))
      → go game position state lines left ≡ covered_play style db draws lines
  same lines =
      ap (λ g. go g position state lines left) is
      ∙ ap (λ p. go (in_style style db) p state lines left) at
      ∙ ap (λ s. go (in_style style db) Fresh s lines left) in_state
      ∙ ap (λ d. go (in_style style db) Fresh (start db) lines d) all

  module _ (shelf : ShelfView) (old mid : ConsoleView) (after : SessionView)
      (before now : Supply) where
    -- the console failed as it played
    pub obeys-cover_broken : (status : ℕ) (fault : ConsoleFault) → status ≡ 3
        → IfSome old.left (λ lines. Plays old mid (Err fault) (go game position state lines left)
        after before now) → HasCause {T = Ending} old.faults mid.faults (Err fault)
        → Obeys shelf shelf old mid (Ok task) status
    obeys-cover_broken status fault three plays cause =
        obeys-broken shelf old mid status task ends (λ lines. refl) three cause.later cause.failed
        (where_known (λ lines. Plays old mid (Err fault) (go game position state lines left) after
        before now) (λ lines. GrewByPrefix old.history mid.history (ends lines).events)
        (λ lines p. part_of_more old.history mid.history
        (shown (trace_of (covered_play style db draws lines).events))
        (says (report_text (line_counts db (covered_play style db draws lines))))
        (subst (λ (t : Traced Step PlayEnd). GrewByPrefix old.history mid.history
        (shown (trace_of t.events))) (same lines) p.part)) old.left plays)

    module _ (new : ConsoleView) (status : ℕ) (ending : Ending)
        (plays : IfSome old.left (λ lines. Plays old mid (Ok ending)
        (go game position state lines left) after before now))
        (tried : IfSome old.left (λ lines. after.tried
        ≡ tallied (go game position state lines left).events before_tried))
        (cause : HasCause {E = ConsoleFault} old.faults mid.faults (Ok ending)) where
      abbrev text : List ℕ
      text = report_text (first_counts (length db.actions) after.tried)

      -- what was shown, and what the report says
      abbrev Went : List (List ℕ) → Type 0
      Went lines =
          (mid.history
          ≡ grown old.history (shown (trace_of (covered_play style db draws lines).events)))
          × (text ≡ report_text (line_counts db (covered_play style db draws lines)))

      all_went : IfSome old.left Went
      all_went = where_both old.left (λ lines. Plays old mid (Ok ending)
          (go game position state lines left) after before now)
          (λ lines. after.tried ≡ tallied (go game position state lines left).events before_tried)
          Went (λ lines p t. (
            p.shows ∙ ap (λ u. grown old.history (shown (trace_of u.events))) (same lines),
            ap (λ counts. report_text (first_counts (length db.actions) counts))
                (t ∙ ap (tallied (go game position state lines left).events) none_tried
                ∙ ap (λ u. tallied u.events (untried db)) (same lines)),
          )) plays tried

      abbrev Answered : List (List ℕ) → Type 0
      Answered lines = Answers shelf shelf old new lines (Ok task) status

      steady : mid.faults ≡ old.faults
      steady = cause.steady

      said : (result : Result Unit ConsoleFault) → Speaks mid new result (says text)
          → MatchResult result (λ _. status ≡ 0) (λ _. status ≡ 3)
          → Obeys shelf shelf old new (Ok task) status
      said (Ok value) speaks zero =
          let stays : new.faults ≡ old.faults = speaks.cause.steady ∙ steady in record {
            answered = where_known Went Answered (λ lines w. inl (
              ends lines,
              refl,
              whole zero (grown_on old.history mid.history new.history
                  (shown (trace_of (covered_play style db draws lines).events)) (says text) w.0
                  speaks.said ∙ ap (λ t. grown old.history
                  (shown (trace_of (covered_play style db draws lines).events) ++ says t)) w.1)
                  refl,
            )) old.left all_went;
            stands = inl (subst (Contains (0 ∷ [])) (sym zero) (first 0));
            silent = λ quiet f. absurd (omega arith);
            lines = inl (inl zero);
            files = refl;
            shelf_later = omega arith;
            later = omega (arith, stays);
            shelf_stays = inr (inr refl);
            console_stays = inr stays;
          }
      said (Err fault) speaks three =
          let failed : Rose old.faults new.faults =
          subst (λ (n : ℕ). Rose n new.faults) steady speaks.cause.failed in
          let more = speaks.cause.later in
          obeys-broken shelf old new status task ends (λ lines. refl) three
          (omega (arith, steady, more)) failed
          (where_known Went (λ lines. GrewByPrefix old.history new.history (ends lines).events)
          (λ lines w. part_on old.history mid.history new.history
          (shown (trace_of (covered_play style db draws lines).events))
          (says (report_text (line_counts db (covered_play style db draws lines)))) w.0
          (subst (λ (t : List ℕ). GrewByPrefix mid.history new.history (says t)) w.1 speaks.part))
          old.left all_went)

      unsaid_report : new ≡ mid → status ≡ 9 → Obeys shelf shelf old new (Ok task) status
      unsaid_report same_console nine =
          let stays : new.faults ≡ old.faults = ap (λ c. c.faults) same_console ∙ steady in record {
            answered = where_known Went Answered (λ lines w. inl (
              ends lines,
              refl,
              cut_short nine (ap (λ c. c.history) same_console ∙ w.0) refl,
            )) old.left all_went;
            stands = inr (inl nine);
            silent = λ quiet f. absurd (quiet late_9);
            lines = inl (inr (inr (inr (inr (subst (Contains report_late) (sym nine) late_9)))));
            files = refl;
            shelf_later = omega arith;
            later = omega (arith, stays);
            shelf_stays = inr (inr refl);
            console_stays = inr stays;
          }

      -- a play that was shown, and then the report, if there was memory for it
      pub obeys-covered : SaysReport mid new text 0 status
          → Obeys shelf shelf old new (Ok task) status
      obeys-covered (o.reported result speaks is_status) = said result speaks is_status
      obeys-covered (o.unreported same_console nine) = unsaid_report same_console nine
