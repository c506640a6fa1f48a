-- What the program promises where all files of a request were loaded.
use Rattle.std.proofs.Common.{◌≡◌, ◌∙◌, ℕ, List, [], Option, Some, None, IfSome, Result, Ok, Err, refl, sym, ap, subst, inl, inr, ◌⊎◌, arith}
use Rattle.std.specs.Prelude.{Contains}
use Rattle.adv_io.specs.Console.{ConsoleView}
use Rattle.adv_io.specs.Faults.{Rose}
use Rattle.adv_io.specs.History.{grown}
use Rattle.adv_io.specs.Shelf.{Files, ShelfView}
use Rattle.scott_requests.specs.Request.{Request}
use Rattle.scott_tool.specs.Refusal.{Refusal, Unfit, unfit, refusing, flaw_status}
use Rattle.scott_tool.specs.Outcome as outcome
use Rattle.scott_tool.specs.Outcome.{Outcome, statuses, Ends, whole, unsaid, unstored, cut_short}
use Rattle.scott_tool.specs.Loading.{loads_of, stores, late_statuses, Texts, texts_of}
use Rattle.scott_tool.specs.Work.{IsText, Task, saying, storing, running, playing, Does, status_with, stored_by, late_of}
use Rattle.scott_tool.specs.Plan.{plan, work, Reaches, IsRefused, expected, statuses_of, late_in}
use Rattle.scott_tool.specs.Obeying.{Keeps, StatusStands, Answers, Leaves, NameKeeps, MayTake, IsSilent, Obeys}
use Rattle.scott_tool.specs.Causes.{IsOfContent, EndsWith, HasCause, by_task, by_content, by_run, by_memory, by_console, by_shelf}
use Rattle.scott_tool.specs.Laws.{Laws}
use Rattle.scott_tool.specs.Promises.{IfKnown, SaysUnread, IsEnd, WasDone}
use Rattle.scott_tool.proofs.Files.{texts-loaded}
use Rattle.scott_tool.proofs.Statuses.{is_2, is_3, is_9, is_content, of_content, is_end, task_end, not_end, Tells, of_task, of_fault, of_memory, of_console, of_shelf, tells}
use Rattle.scott_tool.proofs.Obeying.{refusal_not, unkept_not_end}
use Rattle.scott_tool.proofs.Readings.{made, task_made, reached, refused_first, reaches_more}
use Rattle.scott_tool.proofs.Promised.{Promises, from_files, from_lines, expected-ok, complete_from}

no_contains : (n : ℕ) → Contains [] n → ⊥
no_contains n h = absurd (let less = h.1 in omega arith)

-- the status of what a task does is its own
does_status : (task : Task) (lines : List (List ℕ)) (o : Outcome) → Does task lines o
    → o.status ≡ status_with task lines
does_status (saying text) lines o (out, is, e) = ap (λ x. x.status) e
does_status (storing name text) lines o (out, is, e) = ap (λ x. x.status) e
does_status (running ends show) lines o e = ap (λ x. x.status) e
does_status (playing show save) lines o e = ap (λ x. x.status) e

module _ (shelf shelf' : ShelfView) (console console' : ConsoleView) (status : ℕ) where
  abbrev Broke : Type 0
  Broke = Rose console.faults console'.faults

  abbrev Lost : Type 0
  Lost = Rose shelf.faults shelf'.faults

  abbrev Stand : List ℕ → Type 0
  Stand expected = StatusStands Lost Broke expected status

  -- ---- a task that was done

  -- what ends as a task does was all seen
  ended_whole : (o : Outcome) → Ends shelf shelf' console console' o status → IsEnd status
      → (status ≡ o.status) × (console'.history ≡ grown console.history o.events)
      × (shelf'.files ≡ outcome.kept shelf.files o.stored)
  ended_whole o (whole is grew files) end = (is, grew, files)
  ended_whole o (unsaid three failed part files) end = absurd
      (not_end status 3 end (λ n. omega arith) (λ n. omega arith) (λ n. omega arith) three)
  ended_whole o (unstored file stored loses said) end = absurd
      (unkept_not_end console console' status o file.name said end)
  ended_whole o (cut_short nine grew files) end = absurd
      (not_end status 9 end (λ n. omega arith) (λ n. omega arith) (λ n. omega arith) nine)

  abbrev Saw : Task → List (List ℕ) → Type 0
  Saw task lines = (o : Outcome) × Does task lines o × (status ≡ o.status)
      × (console'.history ≡ grown console.history o.events)
      × (shelf'.files ≡ outcome.kept shelf.files o.stored)

  saw : (task : Task) (lines : List (List ℕ)) → IsEnd status
      → Answers shelf shelf' console console' lines (Ok task) status → Saw task lines
  saw task lines end (inl (o, does, ends)) =
      let all = ended_whole o ends end in (o, does, all.0, all.1, all.2)
  saw task lines end (inr silent) = absurd (not_end status 9 end (λ n. omega arith)
      (λ n. omega arith) (λ n. omega arith) silent.0)

  was_done : (task : Task) → Obeys shelf shelf' console console' (Ok task) status → IsEnd status
      → WasDone shelf shelf' console console' task status
  was_done task obeys end = record {
    seen = from_lines console.left
        (λ lines. Answers shelf shelf' console console' lines (Ok task) status) (Saw task)
        (λ lines h. saw task lines end h) obeys.answered;
    files = obeys.files;
  }

  -- its status is that of its task
  done_status : (task : Task) → WasDone shelf shelf' console console' task status
      → IfSome console.left (λ lines. status_with task lines ≡ status)
  done_status task d =
      from_lines console.left (Saw task) (λ lines. status_with task lines ≡ status)
      (λ lines h. sym (h.2 ∙ does_status task lines h.0 h.1)) d.seen

  -- ---- the files

  kept_some : (name : List ℕ) (MayBe : List ℕ → Type 0) → Keeps shelf shelf' name MayBe status
      → NameKeeps shelf shelf' (Some name) status
  kept_some name MayBe h = elim h.stay [
    | inl zero ↦ (let kept = h.stored zero in inl (zero, (kept.0, kept.2)))
    | inr other ↦ inr other
  ]

  -- a task leaves all files as they were but that of the name under which it stores
  keeps_name : (name : Option (List ℕ)) (task : Task) → stored_by task ≡ name
      → Leaves shelf shelf' (Ok task) status → NameKeeps shelf shelf' name status
  keeps_name name task is h =
      subst (λ (n : Option (List ℕ)). NameKeeps shelf shelf' n status) is (by task h)
    where
      by : (task : Task) → Leaves shelf shelf' (Ok task) status
          → NameKeeps shelf shelf' (stored_by task) status
      by (saying text) h = h
      by (running ends show) h = h
      by (playing show None) h = h
      by (playing show (Some save)) h = h
      by (storing other text) h = kept_some other (IsText text) h

  stay_named : (name : Option (List ℕ)) → shelf'.files ≡ shelf.files
      → NameKeeps shelf shelf' name status
  stay_named None same = same
  stay_named (Some name) same = inr (inl same)

  module _ (laws : Laws) (request : Request) (texts : Texts) (there : IfSome shelf.files
      (λ files. texts_of files request ≡ Ok texts)) (obeys : Obeys shelf shelf' console console'
      (refusing (work request texts)) status) where
    abbrev Cause : Type 0
    Cause = HasCause shelf shelf' console console' (Some request) status

    abbrev Done : Task → Type 0
    Done task = WasDone shelf shelf' console console' task status

    abbrev DoneIn : Files → Type 0
    DoneIn files = Reaches files (plan request) Done

    obeys_task : (task : Task) → work request texts ≡ Ok task
        → Obeys shelf shelf' console console' (Ok task) status
    obeys_task task w =
        subst (λ (r : Result Task Unfit). Obeys shelf shelf' console console' (refusing r) status) w
        obeys

    done_by : (task : Task) → work request texts ≡ Ok task → IsEnd status
        → IfSome shelf.files DoneIn
    done_by task w end =
        from_files shelf.files (λ files. texts_of files request ≡ Ok texts) DoneIn
        (λ files e. let l = texts-loaded files request texts e in
        reached laws files texts (loads_of request) (stores request) (late_statuses request) l.main
        l.draws l.position Done (plan request) (made request) task w
        (was_done task (obeys_task task w) end)) there

    refused_by : (u : Unfit) → work request texts ≡ Err u → status ≡ flaw_status u.flaw
        → IfSome shelf.files (λ files. IsRefused files (plan request) status)
    refused_by u w s =
        from_files shelf.files (λ files. texts_of files request ≡ Ok texts)
        (λ files. IsRefused files (plan request) status)
        (λ files e. let l = texts-loaded files request texts e in
        subst (IsRefused files (plan request)) (sym s)
        (refused_first laws files texts (loads_of request) (stores request) (late_statuses request)
        l.main l.draws l.position (plan request) (made request) u w)) there

    run_ended : IfSome shelf.files DoneIn
        → IfSome shelf.files (λ files. EndsWith files console.left (Some request) status)
    run_ended done =
        from_files shelf.files DoneIn
        (λ files. EndsWith files console.left (Some request) status)
        (λ files h. reaches_more files Done
        (λ task. IfSome console.left (λ lines. status_with task lines ≡ status)) done_status
        (plan request) h) done

    -- no content is refused with the status of a task
    unfit_not_end : (u : Unfit) → status ≡ flaw_status u.flaw → IsEnd status → ⊥
    unfit_not_end u s (inl e) = refusal_not (unfit u) status (inl e) (sym s)
    unfit_not_end u s (inr (inl e)) = refusal_not (unfit u) status (inr (inr (inr (inl e)))) (sym s)
    unfit_not_end u s (inr (inr e)) = refusal_not (unfit u) status (inr (inr (inr (inr e)))) (sym s)

    abbrev Answered : Type 0
    Answered = Tells Lost Broke (work request texts) status

    known : Answered → Contains statuses status
    known (of_task task e h) = is_end status (task_end task status h)
    known (of_fault u e is) = subst (Contains statuses) (sym is) (is_content u.flaw)
    known (of_memory nine) = subst (Contains statuses) (sym nine) is_9
    known (of_console three failed) = subst (Contains statuses) (sym three) is_3
    known (of_shelf two failed) = subst (Contains statuses) (sym two) is_2

    cause : Answered → Cause
    cause (of_task task w h) =
        let end = task_end task status h in
        let ended = run_ended (done_by task w end) in
        elim end [ inl zero ↦ by_task zero | inr other ↦ by_run other ended ]
    cause (of_fault u w s) =
        by_content (subst IsOfContent (sym s) (of_content u.flaw)) (refused_by u w s)
    cause (of_memory nine) = by_memory nine refl
    cause (of_console three failed) = by_console three failed
    cause (of_shelf two failed) = by_shelf two (inl failed)

    done : Answered → IsEnd status → IfSome shelf.files DoneIn
    done (of_task task w h) end = done_by task w end
    done (of_fault u w s) end = absurd (unfit_not_end u s end)
    done (of_memory nine) end = absurd (not_end status 9 end (λ n. omega arith) (λ n. omega arith)
        (λ n. omega arith) nine)
    done (of_console three failed) end = absurd (not_end status 3 end (λ n. omega arith)
        (λ n. omega arith) (λ n. omega arith) three)
    done (of_shelf two failed) end = absurd (not_end status 2 end (λ n. omega arith)
        (λ n. omega arith) (λ n. omega arith) two)

    was_made : (task : Task) → work request texts ≡ Ok task
        → (stored_by task ≡ stores request) × (late_of task ≡ late_statuses request)
    was_made task w = task_made (loads_of request) (stores request) (late_statuses request) texts
        (plan request) (made request) task w

    -- what may have been seen with other statuses is as the request has it
    late_seen : (due : Result Task Unfit) → work request texts ≡ due
        → IsSilent console console' (late_in (refusing due)) status
        → IsSilent console console' (late_statuses request) status
    late_seen (Ok task) w h =
        subst (λ (late : List ℕ). IsSilent console console' late status) (was_made task w).1 h
    late_seen (Err u) w h = λ quiet e. h (λ none. absurd (no_contains 9 none)) e

    late_taken : (due : Result Task Unfit) → work request texts ≡ due
        → MayTake (late_in (refusing due)) status ⊎ (console'.left ≡ console.left)
        → MayTake (late_statuses request) status ⊎ (console'.left ≡ console.left)
    late_taken (Ok task) w h =
        subst (λ (late : List ℕ). MayTake late status ⊎ (console'.left ≡ console.left))
        (was_made task w).1 h
    late_taken (Err u) w h = elim h [
      | inl (inl e) ↦ inl (inl e)
      | inl (inr (inl e)) ↦ inl (inr (inl e))
      | inl (inr (inr (inl e))) ↦ inl (inr (inr (inl e)))
      | inl (inr (inr (inr (inl e)))) ↦ inl (inr (inr (inr (inl e))))
      | inl (inr (inr (inr (inr none)))) ↦ absurd (no_contains status none)
      | inr same ↦ inr same
    ]

    -- what is stored is under the name that the request has for it
    kept : (due : Result Task Unfit) → work request texts ≡ due
        → Leaves shelf shelf' (refusing due) status → NameKeeps shelf shelf' (stores request) status
    kept (Ok task) w h = keeps_name (stores request) task (was_made task w).0 h
    kept (Err u) w h = stay_named (stores request) h

    stands : IfSome shelf.files (λ files. Stand (statuses_of (expected files (Some request))))
    stands =
        from_files shelf.files (λ files. texts_of files request ≡ Ok texts)
        (λ files. Stand (statuses_of (expected files (Some request))))
        (λ files e. subst (λ (r : Result Task Refusal). Stand (statuses_of r))
        (sym (expected-ok files request texts e)) obeys.stands) there

    abbrev Seen : Files → List (List ℕ) → Type 0
    Seen files lines = Answers shelf shelf' console console' lines
        (expected files (Some request)) status ⊎ SaysUnread shelf shelf' console console'
        (Some request) status

    seen : IfKnown shelf console Seen
    seen =
        from_files shelf.files (λ files. texts_of files request ≡ Ok texts)
        (λ files. IfSome console.left (Seen files))
        (λ files e. from_lines console.left (λ lines. Answers shelf shelf' console console' lines
        (refusing (work request texts)) status) (Seen files)
        (λ lines h. inl (subst (λ (r : Result Task Refusal). Answers shelf shelf' console console'
        lines r status) (sym (expected-ok files request texts e)) h)) obeys.answered) there

    pub worked_promised : Promises shelf shelf' console console' (Some request) status
    worked_promised =
        let answered = tells Lost Broke (work request texts) status obeys.stands in
        record {
          status_is = record { known = known answered; cause = cause answered; first = stands };
          seen = record {
            all = seen;
            usage = λ e. absurd cc;
            silent = late_seen (work request texts) refl obeys.silent;
            lines = late_taken (work request texts) refl obeys.lines;
          };
          files = kept (work request texts) refl obeys.files;
          complete = complete_from shelf shelf' console console' status laws (Some request) stands
              seen;
          done = λ end. done answered end;
          counts = record {
            shelf_later = obeys.shelf_later;
            console_later = obeys.later;
            shelf_stays = obeys.shelf_stays;
            console_stays = obeys.console_stays;
          };
        }
