-- What the functions of the program promise each other.
use Rattle.std.specs.Prelude.{◌≡◌, ◌⊎◌, ◌≤◌, ℕ, List, length, Option, Some, None, IfSome, Result, Ok, Err, Contains, MatchResult, IfOk, IfErr, OnOk, Vec}
use Rattle.std.specs.Option.{is_some}
use Rattle.adv_io.specs.Console.{ConsoleView, Speaks}
use Rattle.adv_io.specs.Faults.{Rose}
use Rattle.adv_io.specs.History.{says}
use Rattle.adv_io.specs.Shelf.{Files, ShelfView, Lacks, with_file}
use Rattle.adv_io.specs.declared.faults.ConsoleFault.{ConsoleFault}
use Rattle.scott_format.specs.declared.faults.FormatFault.{FormatFault}
use Rattle.scott_format.specs.declared.faults.FormatFault.TheVariants as answer
use Rattle.scott_requests.specs.Request.{Request}
use Rattle.scott_tool.specs.declared.refusals.ContentFault.TheVariants.{NoDatabase}
use Rattle.scott_tool.specs.declared.refusals.Refusal.{Refusal as HeldRefusal}
use Rattle.scott_tool.specs.declared.loads.Texts.{Texts as HeldTexts}
use Rattle.scott_tool.specs.Refusal.{Refusal, Unfit, unfit_by, no_request, unread, too_long, unfit, unwritten, refusing}
use Rattle.scott_tool.specs.Outcome.{File, Outcome, refused, Concludes, Silent, Loses, Ends}
use Rattle.scott_tool.specs.Loading.{Load, Texts, draws_of, has_game, IsLoad, texts_of}
use Rattle.scott_tool.specs.Work.{Text, IsText, Task, saying, storing, running, playing}
use Rattle.scott_tool.specs.Plan.{work, statuses_of, late_in, IsExpected}
use Rattle.scott_tool.specs.Views.{refusal_of}

-- ---- outcomes

-- One of these statuses; or, in its place, 9 for want of memory, or 3 or 2 where the console or the
-- shelf failed.
abbrev pub StatusStands : (ShelfFailed ConsoleFailed : Type 0) → List ℕ → (status : ℕ) → Type 0
StatusStands ShelfFailed ConsoleFailed expected status =
    Contains expected status ⊎ (status ≡ 9) ⊎ ((status ≡ 3) × ConsoleFailed)
    ⊎ ((status ≡ 2) × ShelfFailed)

-- an outcome that is expected ends, unless memory runs out
abbrev pub Answers : (shelf shelf' : ShelfView) → (old new : ConsoleView) → List (List ℕ)
    → Result Task Refusal → (status : ℕ) → Type 0
Answers shelf shelf' old new lines expected status =
    ((o : Outcome) × IsExpected expected lines o × Ends shelf shelf' old new o status)
    ⊎ Silent old new status

-- bytes that may be are stored with status 0; else the files stay, or the shelf failed as it stored
pub record Keeps (shelf shelf' : ShelfView) (name : List ℕ) (MayBe : List ℕ → Type 0) (status : ℕ)
    : Type 0 where
  pub stored : status ≡ 0 → (bytes : List ℕ) × MayBe bytes
      × (shelf'.files ≡ with_file shelf.files name bytes)
  pub stay : (status ≡ 0) ⊎ (shelf'.files ≡ shelf.files) ⊎ Loses shelf shelf' name

-- Files stay where nothing is to be stored under a name. Else that name alone has other bytes with
-- status 0, and may be lost where the shelf failed.
abbrev pub NameKeeps : (shelf shelf' : ShelfView) → Option (List ℕ) → (status : ℕ) → Type 0
NameKeeps shelf shelf' None status = shelf'.files ≡ shelf.files
NameKeeps shelf shelf' (Some name) status =
    ((status ≡ 0) × ((bytes : List ℕ) × (shelf'.files ≡ with_file shelf.files name bytes)))
    ⊎ (shelf'.files ≡ shelf.files) ⊎ Loses shelf shelf' name

-- the files after what is expected; they stay where it stores nothing
abbrev pub Leaves : (shelf shelf' : ShelfView) → Result Task Refusal → (status : ℕ) → Type 0
Leaves shelf shelf' (Ok (saying text)) status = shelf'.files ≡ shelf.files
Leaves shelf shelf' (Ok (storing name text)) status = Keeps shelf shelf' name (IsText text) status
Leaves shelf shelf' (Ok (running ends show)) status = shelf'.files ≡ shelf.files
Leaves shelf shelf' (Ok (playing show None)) status = shelf'.files ≡ shelf.files
Leaves shelf shelf' (Ok (playing show (Some save))) status =
    NameKeeps shelf shelf' (Some save.name) status
Leaves shelf shelf' (Err refusal) status = shelf'.files ≡ shelf.files

-- only what is done, is a run that ends otherwise, or fails at the console, may take a line; and
-- what ends with one of these other statuses
abbrev pub MayTake : (late : List ℕ) → (status : ℕ) → Type 0
MayTake late status =
    (status ≡ 0) ⊎ (status ≡ 3) ⊎ (status ≡ 8) ⊎ (status ≡ 10) ⊎ Contains late status

-- with 9 nothing is seen, unless it is one of these other statuses
abbrev pub IsSilent : (old new : ConsoleView) → (late : List ℕ) → (status : ℕ) → Type 0
IsSilent old new late status =
    (Contains late 9 → ⊥) → status ≡ 9 → new.history ≡ old.history

-- a console's count of faults stays, but with 3
abbrev pub ConsoleStays : (old new : ConsoleView) → (status : ℕ) → Type 0
ConsoleStays old new status = (status ≡ 3) ⊎ (new.faults ≡ old.faults)

-- a shelf's stays, but with 2, and with 3 where that couldn't be said
abbrev pub ShelfStays : (shelf shelf' : ShelfView) → (status : ℕ) → Type 0
ShelfStays shelf shelf' status = (status ≡ 2) ⊎ (status ≡ 3) ⊎ (shelf'.faults ≡ shelf.faults)

-- what a call promises that does what is expected
pub record Obeys (shelf shelf' : ShelfView) (old new : ConsoleView) (expected : Result Task Refusal)
    (status : ℕ) : Type 0 where
  pub answered : IfSome old.left (λ lines. Answers shelf shelf' old new lines expected status)
  pub stands : StatusStands (Rose shelf.faults shelf'.faults) (Rose old.faults new.faults)
      (statuses_of expected) status
  pub silent : IsSilent old new (late_in expected) status
  pub lines : MayTake (late_in expected) status ⊎ (new.left ≡ old.left)
  pub files : Leaves shelf shelf' expected status
  pub shelf_later : shelf.faults ≤ shelf'.faults
  pub later : old.faults ≤ new.faults
  pub shelf_stays : ShelfStays shelf shelf' status
  pub console_stays : ConsoleStays old new status

-- the same of a call that has no shelf
abbrev pub ObeysAlone : (old new : ConsoleView) → Result Task Refusal → (status : ℕ) → Type 0
ObeysAlone old new expected status = (shelf : ShelfView) → Obeys shelf shelf old new expected status

-- for a refusal with its status and its line; for want of memory with status 9, and nothing is said
abbrev pub EndsFor : (old new : ConsoleView) → Option Refusal → (status : ℕ) → Type 0
EndsFor old new None status = Silent old new status
EndsFor old new (Some refusal) status = Concludes old new (refused refusal) status

-- what a call promises that ends for a refusal
pub record Refuses (old new : ConsoleView) (refusal : Option Refusal) (status : ℕ) : Type 0 where
  pub ended : EndsFor old new refusal status
  pub lines : new.left ≡ old.left
  pub later : old.faults ≤ new.faults
  pub console_stays : ConsoleStays old new status

-- why a file wasn't stored: memory ran out and all stayed, or the shelf failed
abbrev pub FailsToStore : (shelf shelf' : ShelfView) → List ℕ → Option Refusal → Type 0
FailsToStore shelf shelf' name None = (shelf'.files ≡ shelf.files) × (shelf'.faults ≡ shelf.faults)
FailsToStore shelf shelf' name (Some (unwritten other)) = (other ≡ name) × Loses shelf shelf' name
FailsToStore shelf shelf' name (Some _) = ⊥

-- What a call promises that says a report after the console's work: it is said with the status of
-- that work; or the console failed, with 3; or memory ran out before it, with 9.
pub data SaysReport (old new : ConsoleView) (text : List ℕ) (ending status : ℕ) : Type 0 where
  reported : (said : Result Unit ConsoleFault) → Speaks old new said (says text)
      → MatchResult said (λ _. status ≡ ending) (λ _. status ≡ 3)
      → SaysReport old new text ending status
  unreported : new ≡ old → status ≡ 9 → SaysReport old new text ending status

-- what a call promises that keeps a file after the console's work, if there is one
pub data KeepsAfter (shelf shelf' : ShelfView) (old new : ConsoleView) (file : Option File)
    (status : ℕ) : Type 0 where
  nothing : file ≡ None → status ≡ 0 → shelf' ≡ shelf → new ≡ old
      → KeepsAfter shelf shelf' old new file status
  stored : (kept : File) → file ≡ Some kept → status ≡ 0
      → shelf'.files ≡ with_file shelf.files kept.name kept.bytes → shelf'.faults ≡ shelf.faults
      → new ≡ old → KeepsAfter shelf shelf' old new file status
  unstored : (kept : File) (refusal : Option Refusal) → file ≡ Some kept
      → FailsToStore shelf shelf' kept.name refusal → shelf.faults ≤ shelf'.faults
      → Refuses old new refusal status → KeepsAfter shelf shelf' old new file status
  starved : (kept : File) → file ≡ Some kept → shelf' ≡ shelf → new ≡ old → status ≡ 9
      → KeepsAfter shelf shelf' old new file status

-- ---- contents

-- a content is refused as is due, unless memory ran out
abbrev pub Declines : {X : Type 0} → Result X Unfit → Option Refusal → Type 0
Declines expected None = Unit {0}
Declines expected (Some no_request) = ⊥
Declines expected (Some (unread name)) = ⊥
Declines expected (Some (too_long name limit)) = ⊥
Declines expected (Some (unfit u)) = expected ≡ Err u
Declines expected (Some (unwritten name)) = ⊥

-- a value is the one that is expected, unless memory ran out
abbrev pub Gives : {T X : Type 0} → (T → X) → Result T HeldRefusal → Result X Unfit → Type 0
Gives view (Ok given) expected = expected ≡ Ok (view given)
Gives view (Err refusal) expected = Declines expected (refusal_of refusal)

-- the refusal of a fault of the format; want of memory is none
abbrev pub database_refusal : List ℕ → FormatFault → Option Refusal
database_refusal name answer.Memory = None
database_refusal name fault = Some (unfit (unfit_by name (NoDatabase fault)))

-- bytes are a text that is expected to be said
abbrev pub Makes : {A : Type 0} → Result (Vec ℕ A) HeldRefusal → Result Task Unfit → Type 0
Makes (Ok bytes) expected = (text : Text) × (expected ≡ Ok (saying text)) × IsText text bytes.items
Makes (Err refusal) expected = Declines expected (refusal_of refusal)

-- bytes are a text that is expected to be stored under a name
abbrev pub MakesFile : {A : Type 0} → List ℕ → Result (Vec ℕ A) HeldRefusal → Result Task Unfit
    → Type 0
MakesFile name (Ok bytes) expected =
    (text : Text) × (expected ≡ Ok (storing name text)) × IsText text bytes.items
MakesFile name (Err refusal) expected = Declines expected (refusal_of refusal)

-- ---- files

-- Why files weren't loaded, of which `Loaded` are. That one can't be read can come of a shelf that
-- failed; else it isn't there.
abbrev pub Misses : {X : Type 0} → (old new : ShelfView) → (Loaded : Load → Type 0)
    → (Files → Result X Refusal) → Option Refusal → Type 0
Misses old new Loaded expected None = new.faults ≡ old.faults
Misses old new Loaded expected (Some no_request) = ⊥
Misses old new Loaded expected (Some (unread name)) =
    ((load : Load) × Loaded load × (load.name ≡ name))
    × (Rose old.faults new.faults
    ⊎ (Lacks old.files name × IfSome old.files (λ files. expected files ≡ Err (unread name))))
Misses old new Loaded expected (Some (too_long name limit)) =
    IfSome old.files (λ files. expected files ≡ Err (too_long name limit))
    × (new.faults ≡ old.faults)
Misses old new Loaded expected (Some (unfit u)) = ⊥
Misses old new Loaded expected (Some (unwritten name)) = ⊥

-- what a call promises that loads: a value as it is expected of the files, or why not
pub record Fetches {T X : Type 0} (view : T → X) (old new : ShelfView) (Loaded : Load → Type 0)
    (expected : Files → Result X Refusal) (result : Result T HeldRefusal) : Type 0 where
  pub found : IfOk result (λ given. IfSome old.files (λ files. expected files ≡ Ok (view given)))
  pub missed : IfErr result (λ refusal. Misses old new Loaded expected (refusal_of refusal))
  pub files_stay : new.files ≡ old.files
  pub later : old.faults ≤ new.faults
  pub steady : OnOk result (new.faults ≡ old.faults)

-- the same where what a value stands for are bytes that aren't kept themselves
pub record FetchesAs {T X : Type 0} (StandsFor : T → List ℕ → Type 0) (view : T → List ℕ → X)
    (old new : ShelfView) (Loaded : Load → Type 0) (expected : Files → Result X Refusal)
    (result : Result T HeldRefusal) : Type 0 where
  pub found : IfOk result (λ given. (bytes : List ℕ) × StandsFor given bytes
      × IfSome old.files (λ files. expected files ≡ Ok (view given bytes)))
  pub missed : IfErr result (λ refusal. Misses old new Loaded expected (refusal_of refusal))
  pub files_stay : new.files ≡ old.files
  pub later : old.faults ≤ new.faults
  pub steady : OnOk result (new.faults ≡ old.faults)

-- bytes that were loaded are within their limit
abbrev pub IsWithin : Option Load → List ℕ → Type 0
IsWithin asked bytes = IfSome asked (λ load. length bytes ≤ load.limit)

-- What was loaded is for the request: where it asks for a database, one was read or refused, and
-- the bytes of its draws are within their limit.
pub record TextsFit (request : Request) (texts : HeldTexts) : Type 0 where
  pub game : is_some texts.game ≡ has_game request
  pub draws : IsWithin (draws_of request) texts.draws.items

-- ---- requests

-- How what was asked for was handled: the words were no request, a file wasn't loaded, or all were
-- and the work was done on them.
pub data Handled (shelf shelf' : ShelfView) (console console' : ConsoleView)
    (asked : Option Request) (status : ℕ) : Type 0 where
  not_asked : asked ≡ None → shelf' ≡ shelf → Refuses console console' (Some no_request) status
      → Handled shelf shelf' console console' asked status
  not_loaded : (request : Request) (refusal : Option Refusal) → asked ≡ Some request
      → Misses shelf shelf' (IsLoad request) (λ files. texts_of files request) refusal
      → shelf'.files ≡ shelf.files → shelf.faults ≤ shelf'.faults
      → Refuses console console' refusal status → Handled shelf shelf' console console' asked status
  worked : (request : Request) (texts : Texts) → asked ≡ Some request
      → IfSome shelf.files (λ files. texts_of files request ≡ Ok texts)
      → Obeys shelf shelf' console console' (refusing (work request texts)) status
      → Handled shelf shelf' console console' asked status
