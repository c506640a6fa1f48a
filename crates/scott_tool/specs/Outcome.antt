-- Outcomes: the status of a request, what a console sees of it, and the file that is stored.
use Rattle.std.specs.Prelude.{◌≡◌, ◌⊎◌, ℕ, List, [], ◌∷◌, ◌++◌, Option, Some, None}
use Rattle.adv_io.specs.declared.events.Event.{Event}
use Rattle.adv_io.specs.Console.{ConsoleView}
use Rattle.adv_io.specs.Faults.{Rose}
use Rattle.adv_io.specs.History.{says, grown, GrewByPrefix}
use Rattle.adv_io.specs.Shelf.{Files, ShelfView, with_file, without}
use Rattle.scott_tool.specs.Refusal.{Refusal, unwritten, status_of, line_of}

-- 0: done. 1: no request. 2: a file can't be read or written. 3: the console failed. 4: no
-- database. 5: no source or no draws. 6: no program that is accepted. 7: a number is too wide for a
-- program. 8: a trap. 9: want of memory. 10: steps spent. 11: a file is too long.
abbrev pub statuses : List ℕ
statuses = 0 ∷ 1 ∷ 2 ∷ 3 ∷ 4 ∷ 5 ∷ 6 ∷ 7 ∷ 8 ∷ 9 ∷ 10 ∷ 11 ∷ []

pub record File : Type 0 where
  pub name : List ℕ
  pub bytes : List ℕ

-- a status, the bytes that are said and the lines that are taken, what of them is there where
-- memory runs out after the console's work, and the file that is stored after that
pub record Outcome : Type 0 where
  pub status : ℕ
  pub events : List Event
  pub starved : List Event
  pub stored : Option File

-- it ended with a status, and nothing is stored
abbrev pub ended : ℕ → List Event → Outcome
ended status events = record { status = status; events = events; starved = []; stored = None }

-- what was asked for was done
abbrev pub done : List Event → Outcome
done events = ended 0 events

-- it was done, and a file is stored
abbrev pub keeping : List ℕ → List ℕ → Outcome
keeping name bytes =
    record {
      status = 0;
      events = [];
      starved = [];
      stored = Some (record { name = name; bytes = bytes });
    }

-- it was refused, and its line is said
abbrev pub refused : Refusal → Outcome
refused refusal = ended (status_of refusal) (says (line_of refusal))

-- With the outcome's status all its events were seen; or the console failed, with status 3 and a
-- prefix of them.
abbrev pub Concludes : (old new : ConsoleView) → Outcome → (status : ℕ) → Type 0
Concludes old new o status =
    ((status ≡ o.status) × (new.history ≡ grown old.history o.events))
    ⊎ ((status ≡ 3) × Rose old.faults new.faults × GrewByPrefix old.history new.history o.events)

-- memory ran out before anything was seen
abbrev pub Silent : (old new : ConsoleView) → (status : ℕ) → Type 0
Silent old new status = (status ≡ 9) × (new.history ≡ old.history)

-- the files after an outcome
abbrev pub kept : Option Files → Option File → Option Files
kept known None = known
kept known (Some file) = with_file known file.name file.bytes

-- where the shelf failed as it stored, the files stayed, or the name was lost
abbrev pub Loses : (shelf shelf' : ShelfView) → List ℕ → Type 0
Loses shelf shelf' name =
    Rose shelf.faults shelf'.faults
    × ((shelf'.files ≡ shelf.files) ⊎ (shelf'.files ≡ without shelf.files name))

-- the shelf failed as it stored a file: this is said after the outcome's events
abbrev pub unkept : Outcome → List ℕ → Outcome
unkept o name = ended 2 (o.events ++ says (line_of (unwritten name)))

-- How an outcome ends: all of it was done; or the console failed, and nothing was stored; or the
-- shelf failed, and that was said; or memory ran out after the console's work.
pub data Ends (shelf shelf' : ShelfView) (console console' : ConsoleView) (o : Outcome) (status : ℕ)
    : Type 0 where
  whole : status ≡ o.status → console'.history ≡ grown console.history o.events
      → shelf'.files ≡ kept shelf.files o.stored
      → Ends shelf shelf' console console' o status
  unsaid : status ≡ 3 → Rose console.faults console'.faults
      → GrewByPrefix console.history console'.history o.events → shelf'.files ≡ shelf.files
      → Ends shelf shelf' console console' o status
  unstored : (file : File) → o.stored ≡ Some file → Loses shelf shelf' file.name
      → Concludes console console' (unkept o file.name) status
      → Ends shelf shelf' console console' o status
  cut_short : status ≡ 9 → console'.history ≡ grown console.history o.starved
      → shelf'.files ≡ shelf.files
      → Ends shelf shelf' console console' o status
