-- What it means for each command that its task was done.
use Rattle.std.proofs.Common.{◌≡◌, ◌∙◌, ℕ, List, Option, Some, None, IfSome, refl, ap, subst, inl}
use Rattle.std.specs.Prelude.{option_map}
use Rattle.adv_io.specs.Console.{ConsoleView}
use Rattle.adv_io.specs.History.{says, grown}
use Rattle.adv_io.specs.Shelf.{Files, ShelfView, with_file}
use Rattle.scott_requests.specs.Request.{Request, check, compile, decompile, play, translate, run, hall, transfer, simplify, step, cover, calls, demo}
use Rattle.scott_types.specs.Database.{Database}
use Rattle.scott_tool.specs.Outcome as outcome
use Rattle.scott_tool.specs.Play.{OpensAt, position_kept}
use Rattle.scott_tool.specs.Position.{beginning, stopped_text}
use Rattle.scott_tool.specs.Work.{Task, kept_as, saved, play_from}
use Rattle.scott_tool.specs.Plan.{doing, opened, plan, Reaches}
use Rattle.adv_position.specs.declared.saved.Saved.{Saved}
use Rattle.scott_tool.specs.Promises.{IsEnd, WasDone, HasDone, HasChecked, HasCompiled, HasDecompiled, HasPlayed, HasTranslated, HasTransferred, HasRun, HasStepped, HasReplayed, HasPlayedHall, HasCovered, HasCalled, HasRecounted, HasDemonstrated, HasSimplified}
use Rattle.scott_tool.specs.Laws.{Laws}
use Rattle.scott_tool.proofs.Promised.{Promises, from_lines}
use Rattle.scott_tool.proofs.Replaying.{replays}
use Rattle.scott_tool.proofs.Recounting.{recounts}
use Rattle.scott_tool.proofs.Stepping.{without_lines}

-- what was done by the files that are known
by_files : (known : Option Files) (P Q : Files → Type 0)
    → ((files : Files) → known ≡ Some files → P files → Q files) → IfSome known P → IfSome known Q
by_files None P Q f h = tt
by_files (Some files) P Q f h = f files refl h

-- where a play opened that was reached, and what holds of its task
opened_at : (files : Files) (db : Database) (from : Option (List ℕ)) (next : Saved → Task)
    (P : Task → Type 0) → Reaches files (opened from db (λ s. doing (next s))) P
    → (s : Saved) × OpensAt files db from s × P (next s)
opened_at files db None next P h = (beginning db, refl, h)
opened_at files db (Some name) next P (bytes, from, there, has, h) =
    (from, (bytes, there, has), h)

-- what is kept of a play, by the files that are known
kept_position : (files : Files) (known : Option Files) (save : Option (List ℕ))
    (text : List (List ℕ) → Option (List ℕ)) (lines : List (List ℕ)) → known ≡ Some files
    → outcome.kept known (saved (option_map (λ name. record { name = name; text = text }) save)
    lines) ≡ Some (position_kept files save (text lines))
kept_position files known None text lines is = is
kept_position files known (Some name) text lines is = by (text lines)
  where
    by : (out : Option (List ℕ)) → outcome.kept known (kept_as name out)
        ≡ Some (position_kept files (Some name) out)
    by None = is
    by (Some bytes) = ap (λ k. with_file k name bytes) is

module _ (shelf shelf' : ShelfView) (console console' : ConsoleView) (asked : Option Request)
    (status : ℕ) (h : HasDone shelf shelf' console console' asked status) where
  abbrev Done : Request → Files → Type 0
  Done request files = Reaches files (plan request)
      (λ task. WasDone shelf shelf' console console' task status)

  -- of the request that was asked for
  done_for : (request : Request) → asked ≡ Some request → (Q : Files → Type 0)
      → ((files : Files) → shelf.files ≡ Some files → Done request files → Q files)
      → IfSome shelf.files Q
  done_for request is Q f =
      by_files shelf.files (Done request) Q f
      (subst (λ (a : Option Request). HasDone shelf shelf' console console' a status) is h)

  pub checked : HasChecked shelf console console' asked
  checked game is = done_for (check game) is _ (λ files known (bytes, db, there, text, d).
      from_lines console.left _ _ (λ lines (o, (out, exact, does), ends, grew, kept). record {
        bytes = bytes;
        db = db;
        there = there;
        text = text;
        shown = grew ∙ ap (λ x. grown console.history x.events) does
            ∙ ap (λ t. grown console.history (says t)) exact;
      }) d.seen)

  -- what a text was stored under a name has become of the files that are known
  stored : (files : Files) (name out bytes : List ℕ) → shelf.files ≡ Some files → out ≡ bytes
      → shelf'.files ≡ with_file shelf.files name out
      → shelf'.files ≡ with_file (Some files) name bytes
  stored files name out bytes known exact is =
      is ∙ ap (λ f. with_file f name out) known ∙ ap (with_file (Some files) name) exact

  -- `compile` with status 0 has stored the database that the source means
  pub compiled : status ≡ 0 → HasCompiled shelf shelf' asked
  compiled zero source game is = done_for (compile source game) is _
      (λ files known (bytes, tree, db, there, text, means, d). let kept = d.files.stored zero in
      record {
        bytes = bytes;
        tree = tree;
        db = db;
        there = there;
        text = text;
        means = means;
        stored = stored files game kept.0 _ known kept.1 kept.2;
      })

  pub decompiled : status ≡ 0 → HasDecompiled shelf shelf' asked
  decompiled zero game source is = done_for (decompile game source) is _
      (λ files known (bytes, db, there, text, d). let kept = d.files.stored zero in record {
        bytes = bytes;
        db = db;
        there = there;
        text = text;
        stored = stored files source kept.0 _ known kept.1 kept.2;
      })

  -- `play` that was done has shown the play, and kept its position where that was asked for
  pub played : HasPlayed shelf shelf' console console' asked
  played p is = done_for (play p) is _ (λ files known (bytes, db, there, text, (draws, are, d)).
      let opens = opened_at files db p.opened_from _ _ d in
      from_lines console.left _ _ (λ lines (o, does, ends, grew, kept). record {
        bytes = bytes;
        db = db;
        draws = draws;
        from = opens.0;
        there = there;
        text = text;
        draws_are = are;
        opens = opens.1;
        seen = grew ∙ ap (λ x. grown console.history x.events) does;
        kept = kept ∙ ap (λ x. outcome.kept shelf.files x.stored) does
            ∙ kept_position files shelf.files p.saved_as
            (λ ls. stopped_text draws (play_from p.style db opens.0 draws ls).value) lines known;
      }) opens.2.seen)

  -- `translate` with status 0 has stored a program that is faithful to the database
  pub translated : status ≡ 0 → HasTranslated shelf shelf' asked
  translated zero t is = done_for (translate t) is _
      (λ files known (bytes, db, there, text, (no_wide, d)).
      let kept = d.files.stored zero in record {
        bytes = bytes;
        db = db;
        out = kept.0;
        there = there;
        text = text;
        faithful = kept.1;
        stored = stored files t.program kept.0 kept.0 known refl kept.2;
      })

  -- `transfer` with status 0 has stored a program faithful to the database from the position on
  pub transferred : status ≡ 0 → HasTransferred shelf shelf' asked
  transferred zero t is = done_for (transfer t) is _
      (λ files known (
        bytes,
        db,
        there,
        text,
        (
          position,
          from,
          position_there,
          opens,
          (waits, (no_wide, d)),
        ),
      ).
      let kept = d.files.stored zero in record {
        bytes = bytes;
        db = db;
        position = position;
        from = from;
        out = kept.0;
        there = there;
        text = text;
        position_there = position_there;
        opens = opens;
        waits = waits;
        faithful = kept.1;
        stored = stored files t.translation.program kept.0 kept.0 known refl kept.2;
      })

  -- `simplify` with status 0 has stored a program that is simpler than that of the file
  pub simplified : status ≡ 0 → HasSimplified shelf shelf' asked
  simplified zero s is = done_for (simplify s) is _ (λ files known (bytes, p, there, text, d).
      let kept = d.files.stored zero in record {
        bytes = bytes;
        program = p;
        out = kept.0;
        there = there;
        text = text;
        simpler = kept.1;
        stored = stored files s.simpler kept.0 kept.0 known refl kept.2;
      })

  -- `run` that was done has shown the run of the program, and ends with the status of its stop
  pub ran : HasRun shelf console console' asked status
  ran r is = done_for (run r) is _ (λ files known (bytes, p, there, text, (draws, are, d)).
      from_lines console.left _ _ (λ lines (o, does, ends, grew, kept). record {
        bytes = bytes;
        program = p;
        draws = draws;
        there = there;
        text = text;
        draws_are = are;
        ends = ends ∙ ap (λ x. x.status) does;
        seen = grew ∙ ap (λ x. grown console.history x.events) does;
      }) d.seen)

  -- `step` that was done has shown the run of the program, with a line at each pause
  pub stepped : Laws → HasStepped shelf console console' asked status
  stepped laws s is = done_for (step s) is _
      (λ files known (bytes, p, there, text, (pausing, found, (draws, are, d))).
      from_lines console.left _ _ (λ lines (o, does, ends, grew, kept). record {
        bytes = bytes;
        program = p;
        pausing = pausing;
        draws = draws;
        there = there;
        text = text;
        pauses = found;
        draws_are = are;
        ends = ends ∙ ap (λ x. x.status) does;
        seen = grew ∙ ap (λ x. grown console.history x.events) does;
        runs = without_lines laws.steps s.run.width p s.run.steps draws lines;
      }) d.seen)

  -- `calls` that was done has shown the run of the program, and then how often it entered the
  -- routine of each line, or the line of a run that ends otherwise
  pub called : HasCalled shelf console console' asked status
  called r is = done_for (calls r) is _ (λ files known (bytes, p, there, text, (draws, are, d)).
      from_lines console.left _ _ (λ lines (o, does, ends, grew, kept). record {
        bytes = bytes;
        program = p;
        draws = draws;
        there = there;
        text = text;
        draws_are = are;
        ends = ends ∙ ap (λ x. x.status) does;
        seen = grew ∙ ap (λ x. grown console.history x.events) does;
      }) d.seen)

  pub demonstrated : HasDemonstrated shelf console console' asked
  demonstrated n is = done_for (demo n) is _ (λ files known d.
      from_lines console.left _ _ (λ lines (o, (out, told, does), ends, grew, kept). (
        out,
        told,
        grew ∙ ap (λ x. grown console.history x.events) does,
      )) d.seen)

  pub played_hall : HasPlayedHall shelf console console' asked
  played_hall game count is = done_for (hall game count) is _
      (λ files known (bytes, db, there, text, d).
      from_lines console.left _ _ (λ lines (o, does, ends, grew, kept). record {
        bytes = bytes;
        db = db;
        there = there;
        text = text;
        seen = grew ∙ ap (λ x. grown console.history x.events) does;
      }) d.seen)

  -- `cover` that was done has shown the play, and then how often each line was tried
  pub covered : HasCovered shelf console console' asked
  covered c is = done_for (cover c) is _ (λ files known (bytes, db, there, text, (draws, are, d)).
      from_lines console.left _ _ (λ lines (o, does, ends, grew, kept). record {
        bytes = bytes;
        db = db;
        draws = draws;
        there = there;
        text = text;
        draws_are = are;
        seen = grew ∙ ap (λ x. grown console.history x.events) does;
      }) d.seen)

-- the clauses of the commands
pub record Meanings (shelf shelf' : ShelfView) (console console' : ConsoleView)
    (asked : Option Request) (status : ℕ) : Type 0 where
  pub checked_is : status ≡ 0 → HasChecked shelf console console' asked
  pub compiled_is : status ≡ 0 → HasCompiled shelf shelf' asked
  pub decompiled_is : status ≡ 0 → HasDecompiled shelf shelf' asked
  pub played_is : status ≡ 0 → HasPlayed shelf shelf' console console' asked
  pub translated_is : status ≡ 0 → HasTranslated shelf shelf' asked
  pub transferred_is : status ≡ 0 → HasTransferred shelf shelf' asked
  pub simplified_is : status ≡ 0 → HasSimplified shelf shelf' asked
  pub ran_is : IsEnd status → HasRun shelf console console' asked status
  pub stepped_is : IsEnd status → HasStepped shelf console console' asked status
  pub replayed_is : HasReplayed shelf console console' asked status
  pub played_hall_is : status ≡ 0 → HasPlayedHall shelf console console' asked
  pub covered_is : status ≡ 0 → HasCovered shelf console console' asked
  pub called_is : IsEnd status → HasCalled shelf console console' asked status
  pub recounted_is : HasRecounted shelf console console' asked status
  pub demonstrated_is : status ≡ 0 → HasDemonstrated shelf console console' asked

-- what is promised of every request gives for each command what its statuses mean
pub meanings : (laws : Laws) (shelf shelf' : ShelfView) (console console' : ConsoleView)
    (asked : Option Request) (status : ℕ)
    → Promises shelf shelf' console console' asked status
    → Meanings shelf shelf' console console' asked status
meanings laws shelf shelf' console console' asked status all = record {
  checked_is = λ zero. checked shelf shelf' console console' asked status (all.done (inl zero));
  compiled_is = λ zero. compiled shelf shelf' console console' asked status
      (all.done (inl zero)) zero;
  decompiled_is = λ zero. decompiled shelf shelf' console console' asked status
      (all.done (inl zero)) zero;
  played_is = λ zero. played shelf shelf' console console' asked status (all.done (inl zero));
  translated_is = λ zero. translated shelf shelf' console console' asked status
      (all.done (inl zero)) zero;
  transferred_is = λ zero. transferred shelf shelf' console console' asked status
      (all.done (inl zero)) zero;
  simplified_is = λ zero. simplified shelf shelf' console console' asked status
      (all.done (inl zero)) zero;
  ran_is = λ end. ran shelf shelf' console console' asked status (all.done end);
  stepped_is = λ end. stepped shelf shelf' console console' asked status (all.done end) laws;
  replayed_is = replays laws shelf console console' asked status
      (λ end. ran shelf shelf' console console' asked status (all.done end));
  played_hall_is = λ zero. played_hall shelf shelf' console console' asked status
      (all.done (inl zero));
  covered_is = λ zero. covered shelf shelf' console console' asked status (all.done (inl zero));
  called_is = λ end. called shelf shelf' console console' asked status (all.done end);
  demonstrated_is = λ zero. demonstrated shelf shelf' console console' asked status
      (all.done (inl zero));
  recounted_is = recounts laws shelf console console' asked status
      (λ end. called shelf shelf' console console' asked status (all.done end));
}
