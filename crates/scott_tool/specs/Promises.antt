-- What the program promises, whatever words, files and lines it is given.
use Rattle.std.specs.Prelude.{◌≡◌, ◌⊎◌, ◌≤◌, ℕ, List, [], ◌∷◌, length, Option, Some, None, IfSome, Ok, Contains}
use Rattle.adv_io.specs.Console.{ConsoleView}
use Rattle.adv_io.specs.Faults.{Rose}
use Rattle.adv_io.specs.History.{grown}
use Rattle.adv_io.specs.Shelf.{Files, ShelfView}
use Rattle.scott_requests.specs.Request.{PlayRequest, TranslationRequest, RunRequest, TransferRequest, CoverRequest, Request, check, compile, decompile, play, translate, run, hall, transfer, SimplifyRequest, simplify, StepRequest, step, cover, calls, demo}
use Rattle.scott_types.specs.declared.styles.Style.{Style}
use Rattle.scott_types.specs.Database.{Database}
use Rattle.scott_tool.specs.Refusal.{no_request, unread}
use Rattle.scott_tool.specs.Outcome.{statuses, Outcome, refused, kept, Concludes}
use Rattle.scott_tool.specs.Loading.{stores, late_statuses}
use Rattle.scott_tool.specs.Work.{Task, Does}
use Rattle.scott_tool.specs.Plan.{Reaches, expected, statuses_of}
use Rattle.scott_tool.specs.Obeying.{StatusStands, Answers, Leaves, NameKeeps, MayTake, IsSilent, ShelfStays, ConsoleStays}
use Rattle.scott_tool.specs.Causes.{OneLoaded, HasPlan, HasCause, IsAccepted}
use Rattle.scott_tool.specs.Check.{Checked}
use Rattle.scott_tool.specs.Compile.{Compiled}
use Rattle.scott_tool.specs.Decompile.{Decompiled}
use Rattle.scott_tool.specs.Play.{Played}
use Rattle.scott_tool.specs.Translate.{Translated}
use Rattle.scott_tool.specs.Transfer.{Transferred}
use Rattle.scott_tool.specs.Simplify.{Simplified}
use Rattle.scott_tool.specs.Run.{Ran}
use Rattle.scott_tool.specs.Replay.{IsReplay, Replayed, Recounted}
use Rattle.adv_coverage.specs.declared.reports.TheConstants.{LINE_LIMIT}
use Rattle.scott_tool.specs.Hall.{HallPlayed}
use Rattle.scott_tool.specs.Cover.{Covered}
use Rattle.scott_tool.specs.Step.{Stepped}
use Rattle.scott_tool.specs.Calls.{Called}
use Rattle.scott_tool.specs.Demo.{Demonstrated}

-- where the files and the lines are known, this holds of both
abbrev pub IfKnown : ShelfView → ConsoleView → (Files → List (List ℕ) → Type 0) → Type 0
IfKnown shelf console P = IfSome shelf.files (λ files. IfSome console.left (P files))

-- ---- the status

-- one of these; or 9 for want of memory, or 3 or 2 where the console or the shelf failed in this
-- call
abbrev pub IsOneOf : (shelf shelf' : ShelfView) → (console console' : ConsoleView) → List ℕ
    → (status : ℕ) → Type 0
IsOneOf shelf shelf' console console' wanted status =
    StatusStands (Rose shelf.faults shelf'.faults) (Rose console.faults console'.faults) wanted
    status

-- There are twelve statuses, each comes only with its cause, and it is the expected one: that of
-- the first refusal in the order of the steps, or of what is done.
pub record HasStatus (shelf shelf' : ShelfView) (console console' : ConsoleView)
    (asked : Option Request) (status : ℕ) : Type 0 where
  pub known : Contains statuses status
  pub cause : HasCause shelf shelf' console console' asked status
  pub first : IfSome shelf.files
      (λ files. IsOneOf shelf shelf' console console' (statuses_of (expected files asked)) status)

-- where all files are there and accepted, it is 0
abbrev pub Completes : (shelf shelf' : ShelfView) → (console console' : ConsoleView)
    → Option Request → (status : ℕ) → Type 0
Completes shelf shelf' console console' asked status =
    IfSome shelf.files
    (λ files. IsAccepted files console.left asked
    → IsOneOf shelf shelf' console console' (0 ∷ []) status)

-- ---- what is seen

-- where the shelf failed, it is said that a file of the request can't be read
abbrev pub SaysUnread : (shelf shelf' : ShelfView) → (console console' : ConsoleView)
    → Option Request → (status : ℕ) → Type 0
SaysUnread shelf shelf' console console' asked status =
    Rose shelf.faults shelf'.faults × OneLoaded asked
    (λ load. Concludes console console' (refused (unread load.name)) status)

-- the other statuses with which the console may have worked for what is asked
abbrev pub late_for : Option Request → List ℕ
late_for None = []
late_for (Some request) = late_statuses request

-- It is what is expected, or a prefix of it where the console failed. With 9 it is nothing, and
-- only what is done, is a run that ends otherwise, or fails at the console, may take a line, unless
-- the request may work on the console first.
pub record IsSeen (shelf shelf' : ShelfView) (console console' : ConsoleView)
    (asked : Option Request) (status : ℕ) : Type 0 where
  pub all : IfKnown shelf console
      (λ files lines. Answers shelf shelf' console console' lines (expected files asked) status
      ⊎ SaysUnread shelf shelf' console console' asked status)
  pub usage : asked ≡ None → Concludes console console' (refused no_request) status
  pub silent : IsSilent console console' (late_for asked) status
  pub lines : MayTake (late_for asked) status ⊎ (console'.left ≡ console.left)

-- ---- the files

abbrev pub KeepsFiles : (shelf shelf' : ShelfView) → Option Request → (status : ℕ) → Type 0
KeepsFiles shelf shelf' None status = shelf'.files ≡ shelf.files
KeepsFiles shelf shelf' (Some request) status = NameKeeps shelf shelf' (stores request) status

-- ---- what was done

-- a task ends with 0, and a run with 8 or 10 too
abbrev pub IsEnd : (status : ℕ) → Type 0
IsEnd status = (status ≡ 0) ⊎ (status ≡ 8) ⊎ (status ≡ 10)

-- The console saw what the task does with the lines that are left, the status is its own, and the
-- file that it stores is there.
pub record WasDone (shelf shelf' : ShelfView) (console console' : ConsoleView) (task : Task)
    (status : ℕ) : Type 0 where
  pub seen : IfSome console.left
      (λ lines. (o : Outcome) × Does task lines o × (status ≡ o.status)
      × (console'.history ≡ grown console.history o.events)
      × (shelf'.files ≡ kept shelf.files o.stored))
  pub files : Leaves shelf shelf' (Ok task) status

-- Each content of the request was what it should be, and its task was done. So it is with 0, and
-- with the statuses of a run that ends otherwise.
abbrev pub HasDone : (shelf shelf' : ShelfView) → (console console' : ConsoleView)
    → Option Request → (status : ℕ) → Type 0
HasDone shelf shelf' console console' asked status =
    IfSome shelf.files
    (λ files. HasPlan asked (λ plan. Reaches files plan
    (λ task. WasDone shelf shelf' console console' task status)))

-- ---- the same, command by command

abbrev pub HasChecked : ShelfView → (console console' : ConsoleView) → Option Request → Type 0
HasChecked shelf console console' asked =
    (game : List ℕ) → asked ≡ Some (check game)
    → IfKnown shelf console (λ files lines. Checked files game console console')

abbrev pub HasCompiled : (shelf shelf' : ShelfView) → Option Request → Type 0
HasCompiled shelf shelf' asked =
    (source game : List ℕ) → asked ≡ Some (compile source game)
    → IfSome shelf.files (λ files. Compiled files source game shelf'.files)

abbrev pub HasDecompiled : (shelf shelf' : ShelfView) → Option Request → Type 0
HasDecompiled shelf shelf' asked =
    (game source : List ℕ) → asked ≡ Some (decompile game source)
    → IfSome shelf.files (λ files. Decompiled files game source shelf'.files)

abbrev pub HasPlayed : (shelf shelf' : ShelfView) → (console console' : ConsoleView)
    → Option Request → Type 0
HasPlayed shelf shelf' console console' asked =
    (p : PlayRequest) → asked ≡ Some (play p)
    → IfKnown shelf console
    (λ files lines. Played files lines p console console' shelf'.files)

abbrev pub HasTranslated : (shelf shelf' : ShelfView) → Option Request → Type 0
HasTranslated shelf shelf' asked =
    (t : TranslationRequest) → asked ≡ Some (translate t)
    → IfSome shelf.files
    (λ files. Translated files t.game t.program t.style t.width shelf'.files)

abbrev pub HasTransferred : (shelf shelf' : ShelfView) → Option Request → Type 0
HasTransferred shelf shelf' asked =
    (t : TransferRequest) → asked ≡ Some (transfer t)
    → IfSome shelf.files (λ files. Transferred files t shelf'.files)

abbrev pub HasSimplified : (shelf shelf' : ShelfView) → Option Request → Type 0
HasSimplified shelf shelf' asked =
    (s : SimplifyRequest) → asked ≡ Some (simplify s)
    → IfSome shelf.files (λ files. Simplified files s shelf'.files)

-- with 0, and with the statuses of a run that ends otherwise
abbrev pub HasRun : ShelfView → (console console' : ConsoleView) → Option Request → (status : ℕ)
    → Type 0
HasRun shelf console console' asked status =
    (r : RunRequest) → asked ≡ Some (run r)
    → IfKnown shelf console
    (λ files lines. Ran files lines r.program r.source r.steps r.width console console' status)

-- with 0, and with the statuses of a run that ends otherwise
abbrev pub HasStepped : ShelfView → (console console' : ConsoleView) → Option Request
    → (status : ℕ) → Type 0
HasStepped shelf console console' asked status =
    (s : StepRequest) → asked ≡ Some (step s)
    → IfKnown shelf console (λ files lines. Stepped files lines s console console' status)

-- where the program is faithful to a database, the lines are typed and the steps enough
abbrev pub HasReplayed : ShelfView → (console console' : ConsoleView) → Option Request
    → (status : ℕ) → Type 0
HasReplayed shelf console console' asked status =
    (r : RunRequest) (style : Style) (db : Database) → asked ≡ Some (run r)
    → IfKnown shelf console
    (λ files lines. IsReplay files lines r.program r.steps r.width style db
    → Replayed files lines r.source style db console console' status)

abbrev pub HasPlayedHall : ShelfView → (console console' : ConsoleView) → Option Request → Type 0
HasPlayedHall shelf console console' asked =
    (game : List ℕ) (count : ℕ) → asked ≡ Some (hall game count)
    → IfKnown shelf console (λ files lines. HallPlayed files lines game count console console')

abbrev pub HasCovered : ShelfView → (console console' : ConsoleView) → Option Request → Type 0
HasCovered shelf console console' asked =
    (c : CoverRequest) → asked ≡ Some (cover c)
    → IfKnown shelf console (λ files lines. Covered files lines c console console')

-- with 0, and with the statuses of a run that ends otherwise
abbrev pub HasCalled : ShelfView → (console console' : ConsoleView) → Option Request
    → (status : ℕ) → Type 0
HasCalled shelf console console' asked status =
    (r : RunRequest) → asked ≡ Some (calls r)
    → IfKnown shelf console (λ files lines. Called files lines r console console' status)

abbrev pub HasDemonstrated : ShelfView → (console console' : ConsoleView) → Option Request → Type 0
HasDemonstrated shelf console console' asked =
    (n : ℕ) → asked ≡ Some (demo n)
    → IfKnown shelf console (λ files lines. Demonstrated n console console')

-- where the program is faithful to a database of no more lines than a game has, the lines are typed
-- and the steps enough
abbrev pub HasRecounted : ShelfView → (console console' : ConsoleView) → Option Request
    → (status : ℕ) → Type 0
HasRecounted shelf console console' asked status =
    (r : RunRequest) (style : Style) (db : Database) → asked ≡ Some (calls r)
    → length db.actions ≤ LINE_LIMIT
    → IfKnown shelf console
    (λ files lines. IsReplay files lines r.program r.steps r.width style db
    → Recounted files lines r.source style db console console' status)

-- ---- counts of faults

-- none falls; the console's stays with every status but 3, the shelf's with every one but 2 and 3
pub record Counts (shelf shelf' : ShelfView) (console console' : ConsoleView) (status : ℕ) : Type 0
  where
    pub shelf_later : shelf.faults ≤ shelf'.faults
    pub console_later : console.faults ≤ console'.faults
    pub shelf_stays : ShelfStays shelf shelf' status
    pub console_stays : ConsoleStays console console' status
