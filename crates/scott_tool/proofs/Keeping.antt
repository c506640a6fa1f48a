-- That a play whose position may be kept does what is expected.
use Rattle.std.proofs.Common.{◌≡◌, ◌∙◌, ◌≤◌, ℕ, List, [], ◌∷◌, Option, Some, None, IfSome, Ok, refl, sym, ap, subst, inl, inr, arith, lit<}
use Rattle.std.specs.Prelude.{Contains}
use Rattle.adv_io.specs.Console.{ConsoleView}
use Rattle.adv_io.specs.Faults.{Rose}
use Rattle.adv_io.specs.History.{says, grown, GrewByPrefix}
use Rattle.adv_io.specs.Shelf.{ShelfView, with_file}
use Rattle.adv_io.proofs.Sayings.{grown_on, part_on}
use Rattle.scott_tool.specs.Refusal.{Refusal, no_request, unread, too_long, unfit, unwritten, line_of}
use Rattle.scott_tool.specs.Outcome as outcome
use Rattle.scott_tool.specs.Outcome.{File, Outcome, unkept, Concludes, Loses, whole, unsaid, unstored, cut_short}
use Rattle.scott_tool.specs.Work.{Show, Save, kept_as, saved, Task, playing, shown_as, Does}
use Rattle.scott_tool.specs.Obeying as o
use Rattle.scott_tool.specs.Obeying.{Answers, NameKeeps, KeepsAfter, FailsToStore, Refuses, Obeys}
use Rattle.scott_tool.proofs.Statuses.{first}
use Rattle.scott_tool.proofs.Obeying.{where_known, nothing_done}

-- what works on the console, and fails there
pub obeys-broken : (shelf : ShelfView) (old new : ConsoleView) (status : ℕ) (task : Task)
    (ending : List (List ℕ) → Outcome) → ((lines : List (List ℕ)) → Does task lines (ending lines))
    → status ≡ 3 → old.faults ≤ new.faults → Rose old.faults new.faults
    → IfSome old.left (λ lines. GrewByPrefix old.history new.history (ending lines).events)
    → Obeys shelf shelf old new (Ok task) status
obeys-broken shelf old new status task ending does e later failed part = record {
  answered = where_known (λ lines. GrewByPrefix old.history new.history (ending lines).events)
      (λ lines. Answers shelf shelf old new lines (Ok task) status)
      (λ lines h. inl (ending lines, does lines, unsaid e failed h refl)) old.left part;
  stands = inr (inr (inl (e, failed)));
  silent = λ quiet f. absurd (omega arith);
  lines = inl (inr (inl e));
  files = nothing_done shelf (Ok task) status (λ f. omega arith);
  shelf_later = omega arith;
  later = later;
  shelf_stays = inr (inr refl);
  console_stays = inl e;
}

-- the statuses with which a play may end after the console's work
abbrev saving_late : List ℕ
saving_late = 2 ∷ 9 ∷ []

late_2 : Contains saving_late 2
late_2 = (0, lit< tt, refl)

late_9 : Contains saving_late 9
late_9 = (1, lit< tt, refl)

-- a file has the name under which it is kept
named : (name : List ℕ) (text : Option (List ℕ)) (kept : File) → kept_as name text ≡ Some kept
    → kept.name ≡ name
named name None kept e = absurd cc
named name (Some bytes) kept e =
    let same : record { name = name; bytes = bytes } ≡ kept = cc in sym (ap (λ f. f.name) same)

module _ (shelf shelf' : ShelfView) (old mid new : ConsoleView) (status : ℕ) (show : Show)
    (save : Save) (late_is : show.late ≡ saving_late)
    (starved_is : (lines : List (List ℕ)) → show.starved lines ≡ show.events lines)
    (text : Option (List ℕ)) where
  abbrev task : Task
  task = playing show (Some save)

  abbrev ends : List (List ℕ) → Outcome
  ends lines = shown_as show 0 (saved (Some save) lines) lines

  -- what was played is what the task shows, and what is kept is what it stores
  abbrev Went : List (List ℕ) → Type 0
  Went lines = (mid.history ≡ grown old.history (show.events lines)) × (text ≡ save.text lines)

  abbrev Answered : List (List ℕ) → Type 0
  Answered lines = Answers shelf shelf' old new lines (Ok task) status

  stored_is : (lines : List (List ℕ)) → Went lines → (ends lines).stored ≡ kept_as save.name text
  stored_is lines w = ap (kept_as save.name) (sym w.1)

  abbrev Late : ℕ → Type 0
  Late n = Contains show.late n

  late : (n : ℕ) → Contains saving_late n → Late n
  late n h = subst (λ (ls : List ℕ). Contains ls n) (sym late_is) h

  -- all was shown, and the files are these
  ended : status ≡ 0 → new ≡ mid → shelf'.faults ≡ shelf.faults → mid.faults ≡ old.faults
      → ((lines : List (List ℕ)) → Went lines → Answered lines)
      → NameKeeps shelf shelf' (Some save.name) status → IfSome old.left Went
      → Obeys shelf shelf' old new (Ok task) status
  ended zero same faults steady answered files went =
      let stays : new.faults ≡ old.faults = ap (λ c. c.faults) same ∙ steady in record {
        answered = where_known Went Answered answered old.left went;
        stands = inl (subst (Contains (0 ∷ [])) (sym zero) (first 0));
        silent = λ quiet f. absurd (omega arith);
        lines = inl (inl zero);
        files = files;
        shelf_later = omega (arith, faults);
        later = omega (arith, stays);
        shelf_stays = inr (inr faults);
        console_stays = inr stays;
      }

  -- memory ran out after all was shown
  starved : status ≡ 9 → new.history ≡ mid.history → shelf'.files ≡ shelf.files
      → shelf'.faults ≡ shelf.faults → mid.faults ≡ old.faults → mid.faults ≤ new.faults
      → o.ConsoleStays mid new status → IfSome old.left Went
      → Obeys shelf shelf' old new (Ok task) status
  starved nine silent files faults steady more stays went = record {
    answered = where_known Went Answered (λ lines w. inl (
      ends lines,
      refl,
      cut_short nine (silent ∙ w.0 ∙ ap (grown old.history) (sym (starved_is lines))) files,
    )) old.left went;
    stands = inr (inl nine);
    silent = λ quiet f. absurd (quiet (late 9 late_9));
    lines = inl (inr (inr (inr (inr (subst Late (sym nine) (late 9 late_9))))));
    files = inr (inl files);
    shelf_later = omega (arith, faults);
    later = omega (arith, steady, more);
    shelf_stays = inr (inr faults);
    console_stays = elim stays [ inl three ↦ inl three | inr same ↦ inr (same ∙ steady) ];
  }

  -- the shelf failed, which is said
  module _ (kept : File) (is : kept_as save.name text ≡ Some kept)
      (loses : Loses shelf shelf' kept.name) (steady : mid.faults ≡ old.faults)
      (r : Refuses mid new (Some (unwritten kept.name)) status) where
    said_after : (lines : List (List ℕ)) → Went lines
        → Concludes old new (unkept (ends lines) kept.name) status
    said_after lines w = elim r.ended [
      | inl h ↦ inl (
        h.0,
        grown_on old.history mid.history new.history (show.events lines)
            (says (line_of (unwritten kept.name))) w.0 h.1,
      )
      | inr h ↦ inr (
        h.0,
        subst (λ (n : ℕ). Rose n new.faults) steady h.1,
        part_on old.history mid.history new.history (show.events lines)
            (says (line_of (unwritten kept.name))) w.0 h.2,
      )
    ]

    lost : shelf.faults ≤ shelf'.faults → IfSome old.left Went
        → Obeys shelf shelf' old new (Ok task) status
    lost more went = record {
      answered = where_known Went Answered (λ lines w. inl (
        ends lines,
        refl,
        unstored kept (stored_is lines w ∙ is) loses (said_after lines w),
      )) old.left went;
      stands = elim r.ended [
        | inl h ↦ inr (inr (inr (h.0, loses.0)))
        | inr h ↦ inr (inr (inl (h.0, subst (λ (n : ℕ). Rose n new.faults) steady h.1)))
      ];
      silent = λ quiet f. absurd (quiet (late 9 late_9));
      lines = inl (elim r.ended [
        | inl h ↦ inr (inr (inr (inr (subst Late (sym h.0) (late 2 late_2)))))
        | inr h ↦ inr (inl h.0)
      ]);
      files = inr (inr (subst (Loses shelf shelf') (named save.name text kept is) loses));
      shelf_later = more;
      later = let after = r.later in omega (arith, steady, after);
      shelf_stays = elim r.ended [ inl h ↦ inl h.0 | inr h ↦ inr (inl h.0) ];
      console_stays = elim r.console_stays [
        | inl three ↦ inl three
        | inr same ↦ inr (same ∙ steady)
      ];
    }

  -- a play that was shown, and whose position wasn't stored, for want of memory or by a fault of
  -- the shelf, does what is expected
  by_refusal : (kept : File) (refusal : Option Refusal) → kept_as save.name text ≡ Some kept
      → FailsToStore shelf shelf' kept.name refusal → shelf.faults ≤ shelf'.faults
      → mid.faults ≡ old.faults → Refuses mid new refusal status → IfSome old.left Went
      → Obeys shelf shelf' old new (Ok task) status
  by_refusal kept None is h more steady r went =
      starved r.ended.0 r.ended.1 h.0 h.1 steady r.later r.console_stays went
  by_refusal kept (Some (unwritten other)) is h more steady r went =
      lost kept is h.1 steady
      (subst (λ (n : List ℕ). Refuses mid new (Some (unwritten n)) status) h.0 r) more went
  by_refusal kept (Some no_request) is h more steady r went = absurd h
  by_refusal kept (Some (unread other)) is h more steady r went = absurd h
  by_refusal kept (Some (too_long other limit)) is h more steady r went = absurd h
  by_refusal kept (Some (unfit u)) is h more steady r went = absurd h

  -- a play that was shown, and after which a position was kept if there was one
  pub obeys-kept : mid.faults ≡ old.faults → IfSome old.left Went
      → KeepsAfter shelf shelf' mid new (kept_as save.name text) status
      → Obeys shelf shelf' old new (Ok task) status
  obeys-kept steady went (o.nothing none zero same_shelf same) =
      ended zero same (ap (λ s. s.faults) same_shelf) steady
      (λ lines w. inl (
        ends lines,
        refl,
        whole zero (ap (λ c. c.history) same ∙ w.0)
            (ap (λ s. s.files) same_shelf
            ∙ sym (ap (outcome.kept shelf.files) (stored_is lines w ∙ none))),
      ))
      (inr (inl (ap (λ s. s.files) same_shelf))) went
  obeys-kept steady went (o.stored kept is zero files faults same) =
      ended zero same faults steady
      (λ lines w. inl (
        ends lines,
        refl,
        whole zero (ap (λ c. c.history) same ∙ w.0)
            (files ∙ sym (ap (outcome.kept shelf.files) (stored_is lines w ∙ is))),
      ))
      (inl (
        zero,
        (
          kept.bytes,
          subst (λ (n : List ℕ). shelf'.files ≡ with_file shelf.files n kept.bytes)
              (named save.name text kept is) files,
        ),
      )) went
  obeys-kept steady went (o.unstored kept refusal is fails more r) =
      by_refusal kept refusal is fails more steady r went
  obeys-kept steady went (o.starved kept is same_shelf same nine) =
      starved nine (ap (λ c. c.history) same) (ap (λ s. s.files) same_shelf)
      (ap (λ s. s.faults) same_shelf) steady (let e = ap (λ c. c.faults) same in omega (arith, e))
      (inr (ap (λ c. c.faults) same)) went
