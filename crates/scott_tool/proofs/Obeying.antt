-- That what is expected is done, or refused.
use Rattle.std.proofs.Common.{◌≡◌, ◌∙◌, ◌≤◌, Bool, true, false, ℕ, List, [], ◌∷◌, Option, Some, None, IfSome, Result, Ok, Err, MatchResult, OnOk, OnErr, refl, sym, ap, subst, inl, inr, ◌⊎◌, arith}
use Rattle.std.specs.Prelude.{Contains, nat_eq, ◌||◌}
use mathlib.Core.Bool.{true≢false}
use Rattle.adv_io.specs.declared.events.Event.{Event}
use Rattle.adv_io.specs.Console.{ConsoleView, Speaks}
use Rattle.adv_io.specs.Faults.{Rose, HasCause}
use Rattle.adv_io.specs.History.{says, grown, GrewByPrefix}
use Rattle.adv_io.specs.Shelf.{ShelfView, with_file}
use Rattle.adv_io.proofs.Sayings.{grown-nil}
use Rattle.scott_tool.specs.Refusal.{Flaw, bad_database, bad_text, bad_program, bad_width, Refusal, Unfit, no_request, unread, too_long, unfit, unwritten, refusing, flaw_status, status_of, line_of}
use Rattle.scott_tool.specs.Outcome.{Outcome, done, keeping, refused, unkept, kept, Concludes, Loses, Ends, whole, unsaid, unstored}
use Rattle.scott_tool.specs.Work.{Text, IsText, Task, saying, storing, running, playing, Does, task_statuses}
use Rattle.scott_tool.specs.Obeying.{StatusStands, Answers, Leaves, Obeys, Refuses, FailsToStore, Declines}
use Rattle.scott_tool.specs.Promises.{IsEnd}
use Rattle.scott_tool.proofs.Statuses.{first, task_has_0}

whatever : (P : List (List ℕ) → Type 0) → ((lines : List (List ℕ)) → P lines) →
    (o : Option (List (List ℕ))) → IfSome o P
whatever P h None = tt
whatever P h (Some lines) = h lines

pub where_known : (P Q : List (List ℕ) → Type 0) → ((lines : List (List ℕ)) → P lines → Q lines) →
    (o : Option (List (List ℕ))) → IfSome o P → IfSome o Q
where_known P Q f None h = tt
where_known P Q f (Some lines) h = f lines h

pub where_both : (known : Option (List (List ℕ))) → (P Q R : List (List ℕ) → Type 0)
    → ((lines : List (List ℕ)) → P lines → Q lines → R lines)
    → IfSome known P → IfSome known Q → IfSome known R
where_both None P Q R f p q = tt
where_both (Some lines) P Q R f p q = f lines p q

-- the statuses of refusals
abbrev is_refused : ℕ → Bool
is_refused n = nat_eq n 1 || (nat_eq n 2 || (nat_eq n 4 ||
    (nat_eq n 5 || (nat_eq n 6 || (nat_eq n 7 || nat_eq n 11)))))

content_is : (flaw : Flaw) → is_refused (flaw_status flaw) ≡ true
content_is bad_database = refl
content_is bad_text = refl
content_is bad_program = refl
content_is bad_width = refl

refusal_is : (refusal : Refusal) → is_refused (status_of refusal) ≡ true
refusal_is no_request = refl
refusal_is (unread name) = refl
refusal_is (too_long name limit) = refl
refusal_is (unfit u) = content_is u.flaw
refusal_is (unwritten name) = refl

-- no refusal has the status of something done, of want of memory, of a console that failed, or of a
-- run
abbrev NoRefusal : (n : ℕ) → Type 0
NoRefusal n = (n ≡ 0) ⊎ (n ≡ 9) ⊎ (n ≡ 3) ⊎ (n ≡ 8) ⊎ (n ≡ 10)

not_refused : (n : ℕ) → NoRefusal n → is_refused n ≡ false
not_refused n (inl e) = ap is_refused e
not_refused n (inr (inl e)) = ap is_refused e
not_refused n (inr (inr (inl e))) = ap is_refused e
not_refused n (inr (inr (inr (inl e)))) = ap is_refused e
not_refused n (inr (inr (inr (inr e)))) = ap is_refused e

pub refusal_not : (refusal : Refusal) (n : ℕ) → NoRefusal n → status_of refusal ≡ n → ⊥
refusal_not refusal n h f = true≢false (sym (refusal_is refusal) ∙ ap is_refused f
    ∙ not_refused n h)

-- the files stay where nothing was done
pub nothing_done : (shelf : ShelfView) (expected : Result Task Refusal) (status : ℕ)
    → (status ≡ 0 → ⊥) → Leaves shelf shelf expected status
nothing_done shelf (Ok (saying text)) status not_0 = refl
nothing_done shelf (Ok (storing name text)) status not_0 = record
    { stored = λ e. absurd (not_0 e); stay = inr (inl refl) }
nothing_done shelf (Ok (running ends show)) status not_0 = refl
nothing_done shelf (Ok (playing show None)) status not_0 = refl
nothing_done shelf (Ok (playing show (Some save))) status not_0 = inr (inl refl)
nothing_done shelf (Err refusal) status not_0 = refl

-- and where what was done is all said
said_stays : (shelf : ShelfView) (task : Task) (status : ℕ) (events : List Event)
    (lines : List (List ℕ)) → Does task lines (done events) → Leaves shelf shelf (Ok task) status
said_stays shelf (saying text) status events lines does = refl
said_stays shelf (storing name text) status events lines (out, is, e) = absurd
    (let stored = ap (λ o. o.stored) e in cc)
said_stays shelf (running ends show) status events lines does = refl
said_stays shelf (playing show None) status events lines does = refl
said_stays shelf (playing show (Some save)) status events lines does = inr (inl refl)

-- what concludes and stores nothing ends so
concluded : (shelf : ShelfView) (old new : ConsoleView) (o : Outcome) (status : ℕ) → o.stored ≡ None
    → Concludes old new o status → Ends shelf shelf old new o status
concluded shelf old new o status none (inl h) = whole h.0 h.1 (sym (ap (kept shelf.files) none))
concluded shelf old new o status none (inr h) = unsaid h.0 h.1 h.2 refl

-- the file was stored, and nothing is said
pub obeys-stored : (shelf shelf' : ShelfView) (view : ConsoleView) (text : Text)
    (name bytes : List ℕ) → IsText text bytes
    → shelf'.files ≡ with_file shelf.files name bytes → shelf'.faults ≡ shelf.faults
    → Obeys shelf shelf' view view (Ok (storing name text)) 0
obeys-stored shelf shelf' view text name bytes is files faults = record {
  answered = whatever (λ lines. Answers shelf shelf' view view lines (Ok (storing name text)) 0)
      (λ lines. inl (
        keeping name bytes,
        (bytes, is, refl),
        whole refl (sym (grown-nil view.history)) files,
      )) view.left;
  stands = inl (first 0);
  silent = λ quiet e. refl;
  lines = inl (inl refl);
  files = record { stored = λ e. (bytes, is, files); stay = inl refl };
  shelf_later = omega arith;
  later = omega arith;
  shelf_stays = inr (inr faults);
  console_stays = inr refl;
}

-- what ends with a refusal's status doesn't end with that of something done, of want of memory, or
-- of a run
concluded_not : (old new : ConsoleView) (status : ℕ) (o : Outcome) (n : ℕ)
    → is_refused o.status ≡ true → NoRefusal n → (n ≡ 3 → ⊥)
    → Concludes old new o status → status ≡ n → ⊥
concluded_not old new status o n is free not_3 (inl h) e =
    true≢false (sym is ∙ ap is_refused (sym h.0 ∙ e) ∙ not_refused n free)
concluded_not old new status o n is free not_3 (inr h) e = not_3 (sym e ∙ h.0)

-- nor does a store that failed
pub unkept_not_end : (old new : ConsoleView) (status : ℕ) (o : Outcome) (name : List ℕ)
    → Concludes old new (unkept o name) status → IsEnd status → ⊥
unkept_not_end old new status o name said (inl e) =
    concluded_not old new status (unkept o name) 0 refl (inl refl) (λ f. omega arith) said e
unkept_not_end old new status o name said (inr (inl e)) =
    concluded_not old new status (unkept o name) 8 refl (inr (inr (inr (inl refl))))
    (λ f. omega arith) said e
unkept_not_end old new status o name said (inr (inr e)) =
    concluded_not old new status (unkept o name) 10 refl (inr (inr (inr (inr refl))))
    (λ f. omega arith) said e

-- a refusal whose line was said, or the console failed
pub refuses-said : {T E : Type 0} (old new : ConsoleView) (refusal : Refusal) (said : Result T E)
    (status : ℕ) → Speaks old new said (says (line_of refusal))
    → MatchResult said (λ _. status ≡ status_of refusal) (λ _. status ≡ 3)
    → Refuses old new (Some refusal) status
refuses-said old new refusal (Ok x) status s is = record {
  ended = inl (is, s.said);
  lines = s.lines_stay;
  later = s.cause.later;
  console_stays = inr s.cause.steady;
}
refuses-said old new refusal (Err fault) status s is = record {
  ended = inr (is, s.cause.failed, s.part);
  lines = s.lines_stay;
  later = s.cause.later;
  console_stays = inl is;
}

module _ (old new : ConsoleView) (status : ℕ) where
  -- a request that is refused isn't done, and memory didn't run out
  pub refused_not_0 : (refusal : Refusal) → Concludes old new (refused refusal) status → status ≡ 0
      → ⊥
  refused_not_0 refusal (inl h) e = refusal_not refusal status (inl e) (sym h.0)
  refused_not_0 refusal (inr h) e = absurd (let f = h.0 in omega arith)

  pub refused_not_end : (refusal : Refusal) → Concludes old new (refused refusal) status
      → IsEnd status → ⊥
  refused_not_end refusal ended (inl e) = refused_not_0 refusal ended e
  refused_not_end refusal (inl h) (inr (inl e)) = refusal_not refusal status
      (inr (inr (inr (inl e)))) (sym h.0)
  refused_not_end refusal (inl h) (inr (inr e)) = refusal_not refusal status
      (inr (inr (inr (inr e)))) (sym h.0)
  refused_not_end refusal (inr h) (inr (inl e)) = absurd (let f = h.0 in omega arith)
  refused_not_end refusal (inr h) (inr (inr e)) = absurd (let f = h.0 in omega arith)

  pub refused_not_9 : (refusal : Refusal) → Concludes old new (refused refusal) status → status ≡ 9
      → ⊥
  refused_not_9 refusal (inl h) e = refusal_not refusal status (inr (inl e)) (sym h.0)
  refused_not_9 refusal (inr h) e = absurd (let f = h.0 in omega arith)

  refused_stands : (S : Type 0) (refusal : Refusal) → Concludes old new (refused refusal) status
      → StatusStands S (Rose old.faults new.faults) (status_of refusal ∷ []) status
  refused_stands S refusal (inl h) = inl (subst (Contains (status_of refusal ∷ [])) (sym h.0)
      (first (status_of refusal)))
  refused_stands S refusal (inr h) = inr (inr (inl (h.0, h.1)))

  module _ (shelf : ShelfView) where
    -- memory ran out
    pub obeys-starved : (expected : Result Task Refusal) → Refuses old new None status
        → Obeys shelf shelf old new expected status
    obeys-starved expected r = record {
      answered = whatever (λ lines. Answers shelf shelf old new lines expected status)
          (λ lines. inr r.ended) old.left;
      stands = inr (inl r.ended.0);
      silent = λ quiet e. r.ended.1;
      lines = inr r.lines;
      files = nothing_done shelf expected status (λ e. let nine = r.ended.0 in omega arith);
      shelf_later = omega arith;
      later = r.later;
      shelf_stays = inr (inr refl);
      console_stays = r.console_stays;
    }

    obeys-unfit : (u : Unfit) → Refuses old new (Some (unfit u)) status → Obeys shelf shelf old new
        (Err (unfit u)) status
    obeys-unfit u r = record {
      answered = whatever (λ lines. Answers shelf shelf old new lines (Err (unfit u)) status)
          (λ lines. inl (
            refused (unfit u),
            refl,
            concluded shelf old new
                (refused (unfit u)) status refl r.ended,
          )) old.left;
      stands = refused_stands (Rose shelf.faults shelf.faults) (unfit u) r.ended;
      silent = λ quiet e. absurd (refused_not_9 (unfit u) r.ended e);
      lines = inr r.lines;
      files = refl;
      shelf_later = omega arith;
      later = r.later;
      shelf_stays = inr (inr refl);
      console_stays = r.console_stays;
    }

    -- a content was refused
    pub obeys-declined : (expected : Result Task Unfit) (refusal : Option Refusal)
        → Declines expected refusal → Refuses old new refusal status
        → Obeys shelf shelf old new (refusing expected) status
    obeys-declined expected None d r = obeys-starved (refusing expected) r
    obeys-declined expected (Some no_request) d r = absurd d
    obeys-declined expected (Some (unread name)) d r = absurd d
    obeys-declined expected (Some (too_long name limit)) d r = absurd d
    obeys-declined expected (Some (unfit u)) d r =
        subst (λ (x : Result Task Unfit). Obeys shelf shelf old new (refusing x) status) (sym d)
        (obeys-unfit u r)
    obeys-declined expected (Some (unwritten name)) d r = absurd d

  -- ---- what is stored

  module _ (shelf shelf' : ShelfView) (text : Text) (name bytes : List ℕ) (is : IsText text bytes)
    where
      abbrev task : Task
      task = storing name text

      -- the shelf failed
      obeys-unstored : Loses shelf shelf' name → shelf.faults ≤ shelf'.faults → Refuses old new
          (Some (unwritten name)) status
          → Obeys shelf shelf' old new (Ok task) status
      obeys-unstored loses more r = record {
        answered = whatever (λ lines. Answers shelf shelf' old new lines (Ok task) status)
            (λ lines. inl (
              keeping name bytes,
              (bytes, is, refl),
              unstored
                  (record { name = name; bytes = bytes }) refl loses r.ended,
            )) old.left;
        stands = elim r.ended [
          | inl h ↦ inr (inr (inr (h.0, loses.0)))
          | inr h ↦ inr
              (inr (inl (h.0, h.1)))
        ];
        silent = λ quiet e. absurd (refused_not_9 (unwritten name) r.ended e);
        lines = inr r.lines;
        files = record {
          stored = λ e. absurd (refused_not_0 (unwritten name) r.ended e);
          stay = inr (inr loses);
        };
        shelf_later = more;
        later = r.later;
        shelf_stays = elim r.ended [ inl h ↦ inl h.0 | inr h ↦ inr (inl h.0) ];
        console_stays = r.console_stays;
      }

      -- memory ran out as it stored
      obeys-unkept : shelf'.files ≡ shelf.files → shelf'.faults ≡ shelf.faults
          → Refuses old new None status
          → Obeys shelf shelf' old new (Ok task) status
      obeys-unkept files faults r =
          let same : record { files = shelf'.files; faults = shelf'.faults }
          ≡ shelf = λ i. record { files = files i; faults = faults i } in
          subst (λ (s : ShelfView). Obeys shelf s old new (Ok task) status) (sym same)
          (obeys-starved shelf (Ok task) r)

      -- the file wasn't stored
      pub obeys-not_stored : (refusal : Option Refusal) → FailsToStore shelf shelf' name refusal
          → shelf.faults ≤ shelf'.faults → Refuses old new refusal status
          → Obeys shelf shelf' old new (Ok task) status
      obeys-not_stored None h more r = obeys-unkept h.0 h.1 r
      obeys-not_stored (Some (unwritten other)) h more r =
          obeys-unstored h.1 more
          (subst (λ (n : List ℕ). Refuses old new (Some (unwritten n)) status) h.0 r)
      obeys-not_stored (Some no_request) h more r = absurd h
      obeys-not_stored (Some (unread other)) h more r = absurd h
      obeys-not_stored (Some (too_long other limit)) h more r = absurd h
      obeys-not_stored (Some (unfit u)) h more r = absurd h

  -- ---- what is shown

  module _ (shelf : ShelfView) (task : Task) (events : List (List ℕ) → List Event)
      (does : (lines : List (List ℕ)) → Does task lines (done (events lines))) where
    stays : Leaves shelf shelf (Ok task) status
    stays = said_stays shelf task status (events []) [] (does [])

    -- what a task shows was shown, or the console failed
    showed : {T E : Type 0} (result : Result T E)
        → IfSome old.left (λ lines. OnOk result (new.history ≡ grown old.history (events lines)))
        → IfSome old.left (λ lines. OnErr result (GrewByPrefix old.history new.history
        (events lines)))
        → HasCause old.faults new.faults result → MatchResult result (λ _. status ≡ 0)
        (λ _. status ≡ 3) → Obeys shelf shelf old new (Ok task) status
    showed (Ok value) said part cause e = record {
      answered = where_known (λ lines. new.history ≡ grown old.history (events lines))
          (λ lines. Answers shelf shelf old new lines (Ok task) status)
          (λ lines h. inl (done (events lines), does lines, whole e h refl)) old.left said;
      stands = inl (subst (Contains (task_statuses task)) (sym e) (task_has_0 task));
      silent = λ quiet f. absurd (omega arith);
      lines = inl (inl e);
      files = stays;
      shelf_later = omega arith;
      later = cause.later;
      shelf_stays = inr (inr refl);
      console_stays = inr cause.steady;
    }
    showed (Err fault) said part cause e = record {
      answered = where_known (λ lines. GrewByPrefix old.history new.history (events lines))
          (λ lines. Answers shelf shelf old new lines (Ok task) status)
          (λ lines h. inl (done (events lines), does lines, unsaid e cause.failed h refl)) old.left
          part;
      stands = inr (inr (inl (e, cause.failed)));
      silent = λ quiet f. absurd (omega arith);
      lines = inl (inr (inl e));
      files = stays;
      shelf_later = omega arith;
      later = cause.later;
      shelf_stays = inr (inr refl);
      console_stays = inl e;
    }

    pub obeys-shown : {T E : Type 0} (expected : Result Task Unfit) (result : Result T E) → expected
        ≡ Ok task
        → IfSome old.left (λ lines. OnOk result (new.history ≡ grown old.history (events lines)))
        → IfSome old.left (λ lines. OnErr result (GrewByPrefix old.history new.history
        (events lines)))
        → HasCause old.faults new.faults result → MatchResult result (λ _. status ≡ 0)
        (λ _. status ≡ 3) → Obeys shelf shelf old new (refusing expected) status
    obeys-shown expected result e said part cause is =
        subst (λ (x : Result Task Unfit). Obeys shelf shelf old new (refusing x) status) (sym e)
        (showed result said part cause is)

    -- events that no line changes
    pub known_said : {T E : Type 0} (result : Result T E) (all : List Event) →
        ((lines : List (List ℕ)) → events lines ≡ all) → OnOk result
        (new.history ≡ grown old.history all)
        → IfSome old.left (λ lines. OnOk result (new.history ≡ grown old.history (events lines)))
    known_said result all same h =
        whatever (λ lines. OnOk result (new.history ≡ grown old.history (events lines)))
        (λ lines. subst (λ (x : List Event). OnOk result (new.history ≡ grown old.history x))
        (sym (same lines)) h) old.left

    pub known_part : {T E : Type 0} (result : Result T E) (all : List Event) →
        ((lines : List (List ℕ)) → events lines ≡ all) → OnErr result
        (GrewByPrefix old.history new.history all)
        → IfSome old.left (λ lines. OnErr result (GrewByPrefix old.history new.history
        (events lines)))
    known_part result all same h =
        whatever (λ lines. OnErr result (GrewByPrefix old.history new.history (events lines)))
        (λ lines. subst (λ (x : List Event). OnErr result (GrewByPrefix old.history new.history x))
        (sym (same lines)) h) old.left
