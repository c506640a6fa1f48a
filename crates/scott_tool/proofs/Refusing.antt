-- What the program promises where the words are no request, or a file wasn't loaded.
use Rattle.std.proofs.Common.{◌≡◌, ◌∙◌, ◌≤◌, ℕ, List, [], ◌∷◌, Option, Some, None, IfSome, Result, Err, refl, sym, subst, inl, inr, ◌⊎◌, arith}
use Rattle.std.specs.Prelude.{Contains}
use Rattle.adv_io.specs.Console.{ConsoleView}
use Rattle.adv_io.specs.Faults.{Rose}
use Rattle.adv_io.specs.Shelf.{Files, ShelfView, Lacks}
use Rattle.scott_requests.specs.Request.{Request}
use Rattle.scott_tool.specs.Refusal.{Refusal, no_request, unread, too_long, unfit, unwritten, status_of}
use Rattle.scott_tool.specs.Outcome.{refused, statuses, Concludes, Ends, whole, unsaid}
use Rattle.scott_tool.specs.Loading.{IsLoad, texts_of, stores}
use Rattle.scott_tool.specs.Work.{Task}
use Rattle.scott_tool.specs.Plan.{expected, statuses_of}
use Rattle.scott_tool.specs.Obeying.{StatusStands, Answers, Refuses, Misses, ShelfStays}
use Rattle.scott_tool.specs.Causes.{OneLoaded, IsTooLong, HasCause, by_words, by_shelf, by_console, by_memory, by_length}
use Rattle.scott_tool.specs.Promises.{IfKnown, SaysUnread}
use Rattle.scott_tool.proofs.Files.{long_one}
use Rattle.scott_tool.proofs.Statuses.{is_3, is_9, is_known, first, not_end}
use Rattle.scott_tool.proofs.Obeying.{refused_not_9, refused_not_end}
use Rattle.scott_tool.specs.Laws.{Laws}
use Rattle.scott_tool.proofs.Promised.{Promises, for_files, from_files, for_lines, expected-err, name_keeps, complete_from}

module _ (shelf shelf' : ShelfView) (console console' : ConsoleView) (status : ℕ) where
  abbrev Broke : Type 0
  Broke = Rose console.faults console'.faults

  abbrev Lost : Type 0
  Lost = Rose shelf.faults shelf'.faults

  abbrev Stand : List ℕ → Type 0
  Stand expected = StatusStands Lost Broke expected status

  -- ---- a refusal

  module _ (refusal : Refusal) (ended : Concludes console console' (refused refusal) status) where
    known_refused : Contains statuses status
    known_refused = elim ended [
      | inl h ↦ subst (Contains statuses) (sym h.0) (is_known refusal)
      | inr h ↦ subst (Contains statuses) (sym h.0) is_3
    ]

    stand_refused : Stand (status_of refusal ∷ [])
    stand_refused = elim ended [
      | inl h ↦ inl (subst (Contains (status_of refusal ∷ [])) (sym h.0)
          (first (status_of refusal)))
      | inr h ↦ inr (inr (inl (h.0, h.1)))
    ]

    stand_expected : (files : Files) (asked : Option Request) → expected files asked ≡ Err refusal
        → Stand (statuses_of (expected files asked))
    stand_expected files asked e = subst (λ (r : Result Task Refusal). Stand (statuses_of r))
        (sym e) stand_refused

    refused_ends : shelf'.files ≡ shelf.files → Ends shelf shelf' console console'
        (refused refusal) status
    refused_ends same = elim ended [ inl h ↦ whole h.0 h.1 same | inr h ↦ unsaid h.0 h.1 h.2 same ]

    answers_expected : shelf'.files ≡ shelf.files → (files : Files) (asked : Option Request)
        (lines : List (List ℕ)) → expected files asked ≡ Err refusal
        → Answers shelf shelf' console console' lines (expected files asked) status
    answers_expected same files asked lines e =
        subst (λ (r : Result Task Refusal). Answers shelf shelf' console console' lines r status)
        (sym e) (inl (refused refusal, refl, refused_ends same))

    -- where the shelf failed, any status stands that says so
    stand_lost : (others : List ℕ) → status_of refusal ≡ 2 → Lost → Stand others
    stand_lost others two lost = elim ended [
      | inl h ↦ inr (inr (inr (h.0 ∙ two, lost)))
      | inr h ↦ inr (inr (inl (h.0, h.1)))
    ]

  -- ---- no request

  -- words that are no request are refused, and all promises are kept
  pub not_asked_promised : (laws : Laws) → shelf'.files ≡ shelf.files → shelf'.faults ≡ shelf.faults
      → Refuses console console' (Some no_request) status
      → Promises shelf shelf' console console' None status
  not_asked_promised laws same steady r =
      let stands = for_files shelf.files (λ files. Stand (statuses_of (expected files None)))
      (λ files. stand_expected no_request r.ended files None refl) in
      let seen : IfKnown shelf console (λ files lines. Answers shelf shelf' console console' lines
      (expected files None) status ⊎ SaysUnread shelf shelf' console console' None status) =
      for_files shelf.files (λ files. IfSome console.left
      (λ lines. Answers shelf shelf' console console' lines (expected files None) status
      ⊎ SaysUnread shelf shelf' console console' None status))
      (λ files. for_lines console.left (λ lines. Answers shelf shelf' console console' lines
      (expected files None) status ⊎ SaysUnread shelf shelf' console console' None status)
      (λ lines. inl (answers_expected no_request r.ended same files None lines refl))) in
      record {
        status_is = record {
          known = known_refused no_request r.ended;
          cause = elim r.ended [
            | inl h ↦ by_words h.0 refl
            | inr h ↦ by_console h.0 h.1
          ];
          first = stands;
        };
        seen = record {
          all = seen;
          usage = λ e. r.ended;
          silent = λ quiet e. absurd (refused_not_9 console console' status no_request r.ended e);
          lines = inr r.lines;
        };
        files = same;
        complete = complete_from shelf shelf' console console' status laws None stands seen;
        done = λ end. absurd (refused_not_end console console' status no_request r.ended end);
        counts = record {
          shelf_later = omega arith;
          console_later = r.later;
          shelf_stays = inr (inr steady);
          console_stays = r.console_stays;
        };
      }

  -- ---- a file wasn't loaded

  module _ (request : Request) where
    abbrev Seen : Files → List (List ℕ) → Type 0
    Seen files lines = Answers shelf shelf' console console' lines
        (expected files (Some request)) status ⊎ SaysUnread shelf shelf' console console'
        (Some request) status

    abbrev AllSeen : Type 0
    AllSeen = IfKnown shelf console Seen

    abbrev AllStands : Type 0
    AllStands = IfSome shelf.files (λ files. Stand (statuses_of (expected files (Some request))))

    seen_by : ((files : Files) (lines : List (List ℕ)) → Seen files lines) → AllSeen
    seen_by f =
        for_files shelf.files (λ files. IfSome console.left (Seen files))
        (λ files. for_lines console.left (Seen files) (f files))

    -- the refusal is the one that the files have
    stands_at : (refusal : Refusal) → Concludes console console' (refused refusal) status
        → IfSome shelf.files (λ files. texts_of files request ≡ Err refusal) → AllStands
    stands_at refusal ended h =
        from_files shelf.files (λ files. texts_of files request ≡ Err refusal)
        (λ files. Stand (statuses_of (expected files (Some request))))
        (λ files e. stand_expected refusal ended files (Some request)
        (expected-err files request refusal e)) h

    seen_at : shelf'.files ≡ shelf.files → (refusal : Refusal) → Concludes console console'
        (refused refusal) status → IfSome shelf.files (λ files. texts_of files request
        ≡ Err refusal) → AllSeen
    seen_at same refusal ended h =
        from_files shelf.files (λ files. texts_of files request ≡ Err refusal)
        (λ files. IfSome console.left (Seen files))
        (λ files e. for_lines console.left (Seen files) (λ lines. inl
        (answers_expected refusal ended same files (Some request) lines
        (expected-err files request refusal e)))) h

    abbrev Promised : Type 0
    Promised = Promises shelf shelf' console console' (Some request) status

    abbrev Cause : Type 0
    Cause = HasCause shelf shelf' console console' (Some request) status

    -- a refusal whose cause is known and that says what is seen
    refused_promised : (laws : Laws) (refusal : Refusal) → shelf'.files ≡ shelf.files
        → shelf.faults ≤ shelf'.faults → ShelfStays shelf shelf' status
        → Refuses console console' (Some refusal) status → Cause → AllStands → AllSeen → Promised
    refused_promised laws refusal same later stays r cause stands seen = record {
      status_is = record { known = known_refused refusal r.ended; cause = cause; first = stands };
      seen = record {
        all = seen;
        usage = λ e. absurd cc;
        silent = λ quiet e. absurd
            (refused_not_9 console console' status refusal r.ended e);
        lines = inr r.lines;
      };
      files = name_keeps shelf shelf' console console' status (stores request) same;
      complete = complete_from shelf shelf' console console' status laws (Some request) stands seen;
      done = λ end. absurd (refused_not_end console console' status refusal r.ended end);
      counts = record {
        shelf_later = later;
        console_later = r.later;
        shelf_stays = stays;
        console_stays = r.console_stays;
      };
    }

    -- the cause of a refusal's own status, or the console failed
    cause_of : (refusal : Refusal) → Concludes console console' (refused refusal) status
        → (status ≡ status_of refusal → Cause) → Cause
    cause_of refusal ended own =
        elim ended [ inl h ↦ own h.0 | inr h ↦ by_console h.0 h.1 ]

    memory_promised : (laws : Laws) → shelf'.files ≡ shelf.files → shelf'.faults ≡ shelf.faults
        → Refuses console console' None status → Promised
    memory_promised laws same steady r =
        let nine : status ≡ 9 = r.ended.0 in
        let stands : AllStands = for_files shelf.files (λ files. Stand
        (statuses_of (expected files (Some request)))) (λ files. inr (inl nine)) in
        let all : AllSeen = seen_by (λ files lines. inl (inr r.ended)) in
        record {
          status_is = record {
            known = subst (Contains statuses) (sym nine) is_9;
            cause = by_memory nine refl;
            first = stands;
          };
          seen = record {
            all = all;
            usage = λ e. absurd cc;
            silent = λ quiet e. r.ended.1;
            lines = inr
                r.lines;
          };
          files = name_keeps shelf shelf' console console' status (stores request) same;
          complete = complete_from shelf shelf' console console' status laws
              (Some request) stands all;
          done = λ end. absurd (not_end status 9 end (λ f. omega arith) (λ f. omega arith)
              (λ f. omega arith) nine);
          counts = record {
            shelf_later = omega arith;
            console_later = r.later;
            shelf_stays = inr
                (inr steady);
            console_stays = r.console_stays;
          };
        }

    abbrev Missed : Option Refusal → Type 0
    Missed refusal = Misses shelf shelf' (IsLoad request) (λ files. texts_of files request) refusal

    pub not_loaded_promised : (laws : Laws) (refusal : Option Refusal) → Missed refusal
        → shelf'.files ≡ shelf.files → shelf.faults ≤ shelf'.faults
        → Refuses console console' refusal status → Promised
    not_loaded_promised laws None missed same later r = memory_promised laws same missed r
    not_loaded_promised laws (Some no_request) missed same later r = absurd missed
    not_loaded_promised laws (Some (unfit u)) missed same later r = absurd missed
    not_loaded_promised laws (Some (unwritten name)) missed same later r = absurd missed
    not_loaded_promised laws (Some (too_long name limit)) missed same later r =
        refused_promised laws (too_long name limit) same later (inr (inr missed.1)) r
        (cause_of (too_long name limit) r.ended (λ e. by_length e
        (from_files shelf.files (λ files. texts_of files request ≡ Err (too_long name limit))
        (λ files. OneLoaded (Some request) (IsTooLong files))
        (λ files e. long_one files request name limit e) missed.0)))
        (stands_at (too_long name limit) r.ended missed.0)
        (seen_at same (too_long name limit) r.ended missed.0)
    not_loaded_promised laws (Some (unread name)) missed same later r =
        let load = missed.0.0 in
        let is = missed.0.2 in
        let stays : ShelfStays shelf shelf' status = elim r.ended
        [ inl h ↦ inl h.0 | inr h ↦ inr (inl h.0) ] in
        elim missed.1 [
          | inl lost ↦
              refused_promised laws (unread name) same later stays r
              (cause_of (unread name) r.ended (λ e. by_shelf e (inl lost)))
              (for_files shelf.files (λ files. Stand (statuses_of (expected files (Some request))))
              (λ files. stand_lost (unread name) r.ended
              (statuses_of (expected files (Some request))) refl lost))
              (seen_by (λ files lines. inr (
                lost,
                (
                  load,
                  missed.0.1,
                  subst
                      (λ (n : List ℕ). Concludes console console' (refused (unread n)) status)
                      (sym is) r.ended,
                ),
              )))
          | inr lacks ↦
              refused_promised laws (unread name) same later stays r
              (cause_of (unread name) r.ended (λ e. by_shelf e (inr (
                load,
                missed.0.1,
                subst (λ (n : List ℕ). Lacks shelf.files n) (sym is) lacks.0,
              ))))
              (stands_at (unread name) r.ended lacks.1) (seen_at same (unread name) r.ended lacks.1)
        ]
