-- The causes of statuses, and what is accepted, by the files that are known.
use Rattle.std.specs.Prelude.{◌≡◌, ◌⊎◌, ◌<◌, ◌≤◌, ℕ, List, length, Option, Some, None, IfSome, IsSome}
use Rattle.std.specs.FinMap.{get}
use Rattle.adv_io.specs.Console.{ConsoleView}
use Rattle.adv_io.specs.Faults.{Rose}
use Rattle.adv_io.specs.Shelf.{Files, ShelfView, Lacks}
use Rattle.scott_requests.specs.Request.{Request}
use Rattle.scott_tool.specs.Loading.{Load, IsLoad}
use Rattle.scott_tool.specs.Work.{Task, saying, storing, running, playing, status_with}
use Rattle.scott_tool.specs.Plan.{Plan, plan, Reaches, IsRefused}

-- one of the files that the request loads has this
abbrev pub OneLoaded : Option Request → (Load → Type 0) → Type 0
OneLoaded None P = ⊥
OneLoaded (Some request) P = (load : Load) × IsLoad request load × P load

-- the plan of the request has this
abbrev pub HasPlan : Option Request → (Plan → Type 0) → Type 0
HasPlan None P = ⊥
HasPlan (Some request) P = P (plan request)

-- a file has more bytes than are loaded
abbrev pub IsTooLong : Files → Load → Type 0
IsTooLong files load =
    (bytes : List ℕ) × (get files load.name ≡ Some bytes) × (load.limit < length bytes)

-- the statuses of contents that are refused: no database, no source or no draws, no program, and a
-- number that is too wide
abbrev pub IsOfContent : (status : ℕ) → Type 0
IsOfContent status = (status ≡ 4) ⊎ (status ≡ 5) ⊎ (status ≡ 6) ⊎ (status ≡ 7)

-- the statuses of runs that don't end with 0: a trap, and steps that are spent
abbrev pub IsOfRun : (status : ℕ) → Type 0
IsOfRun status = (status ≡ 8) ⊎ (status ≡ 10)

-- what is asked for ends with this status, by the lines that are left
abbrev pub EndsWith : Files → Option (List (List ℕ)) → Option Request → (status : ℕ) → Type 0
EndsWith files left asked status =
    HasPlan asked (λ plan. Reaches files plan
    (λ task. IfSome left (λ lines. status_with task lines ≡ status)))

-- Each status comes only with its cause: the task was done; the words were no request; the shelf
-- or the console failed; a content was refused; a run ended otherwise; memory ran out; or a file
-- was too long.
pub data HasCause (shelf shelf' : ShelfView) (console console' : ConsoleView)
    (asked : Option Request) (status : ℕ) : Type 0 where
  by_task : status ≡ 0 → HasCause shelf shelf' console console' asked status
  by_words : status ≡ 1 → asked ≡ None → HasCause shelf shelf' console console' asked status
  by_shelf : status ≡ 2
      → Rose shelf.faults shelf'.faults ⊎ OneLoaded asked (λ load. Lacks shelf.files load.name)
      → HasCause shelf shelf' console console' asked status
  by_console : status ≡ 3 → Rose console.faults console'.faults
      → HasCause shelf shelf' console console' asked status
  by_content : IsOfContent status
      → IfSome shelf.files (λ files. HasPlan asked (λ plan. IsRefused files plan status))
      → HasCause shelf shelf' console console' asked status
  by_run : IsOfRun status → IfSome shelf.files (λ files. EndsWith files console.left asked status)
      → HasCause shelf shelf' console console' asked status
  by_memory : status ≡ 9 → IsSome asked → HasCause shelf shelf' console console' asked status
  by_length : status ≡ 11 → IfSome shelf.files (λ files. OneLoaded asked (IsTooLong files))
      → HasCause shelf shelf' console console' asked status

-- ---- what is accepted

-- a file is there and within its limit
abbrev pub IsLoadable : Files → Load → List ℕ → Type 0
IsLoadable files load bytes = (get files load.name ≡ Some bytes) × (length bytes ≤ load.limit)

-- each file that a request loads is
abbrev pub AllLoadable : Files → Request → Type 0
AllLoadable files request =
    (load : Load) → IsLoad request load → (bytes : List ℕ) × IsLoadable files load bytes

-- a run ends with 0, with the lines that are left
abbrev pub EndsWith0 : Task → Option (List (List ℕ)) → Type 0
EndsWith0 (saying text) left = Unit {0}
EndsWith0 (storing name text) left = Unit {0}
EndsWith0 (running status show) left =
    (lines : List (List ℕ)) × (left ≡ Some lines) × (status lines ≡ 0)
EndsWith0 (playing show save) left = Unit {0}

-- each file of a request is there, within its limit, and what it should be; and a run ends with 0
abbrev pub IsAccepted : Files → Option (List (List ℕ)) → Option Request → Type 0
IsAccepted files left None = ⊥
IsAccepted files left (Some request) =
    AllLoadable files request × Reaches files (plan request) (λ task. EndsWith0 task left)
