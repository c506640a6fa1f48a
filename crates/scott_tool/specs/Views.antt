-- Refusals, loads and statuses as the program holds them.
use Rattle.std.specs.Prelude.{◌≡◌, ℕ, List, Option, Some, None, Result}
use Rattle.scott_files.specs.Loading.{Reads}
use Rattle.scott_format.specs.declared.faults.FormatFault.{FormatFault}
use Rattle.scott_types.specs.Database.{Database}
use Rattle.scott_tool.specs.declared.loads.Load.{Load as HeldLoad}
use Rattle.scott_tool.specs.declared.loads.Texts.{Texts as HeldTexts}
use Rattle.scott_tool.specs.declared.refusals.Refusal.{Refusal as HeldRefusal}
use Rattle.scott_tool.specs.declared.refusals.Refusal.TheVariants.{NoRequest, Unread, TooLong, Unfit, Unwritten, Memory}
use Rattle.scott_tool.specs.declared.status.Status.{Status}
use Rattle.scott_tool.specs.declared.status.Status.TheVariants as status
use Rattle.scott_tool.specs.Refusal.{Refusal, unfit_by, no_request, unread, too_long, unfit, unwritten}
use Rattle.scott_tool.specs.Loading.{Load, Texts}

-- want of memory is no refusal
abbrev pub refusal_of : HeldRefusal → Option Refusal
refusal_of NoRequest = Some no_request
refusal_of (Unread name) = Some (unread name.now)
refusal_of (TooLong name limit) = Some (too_long name.now limit)
refusal_of (Unfit name fault) = Some (unfit (unfit_by name.now fault))
refusal_of (Unwritten name) = Some (unwritten name.now)
refusal_of Memory = None

abbrev pub load_of : HeldLoad → Load
load_of load = record { name = load.name.now; limit = load.limit }

-- ---- what was loaded

-- with these bytes of the main file
abbrev pub texts_with : HeldTexts → List ℕ → Texts
texts_with texts main =
    record { main = main; draws = texts.draws.items; position = texts.position.items }

-- with those that are kept
abbrev pub texts_in : HeldTexts → Texts
texts_in texts = texts_with texts texts.main.items

-- A main file has these bytes. They are those that are kept, or else they read as what was read.
abbrev pub IsMain : Option (Result Database FormatFault) → (kept bytes : List ℕ) → Type 0
IsMain None kept bytes = bytes ≡ kept
IsMain (Some read) kept bytes = Reads read bytes

abbrev pub HasMain : HeldTexts → List ℕ → Type 0
HasMain texts bytes = IsMain texts.game texts.main.items bytes

-- whichever bytes the main file has, this holds of what was loaded
abbrev pub ForMain : HeldTexts → (Texts → Type 0) → Type 0
ForMain texts P = (bytes : List ℕ) → HasMain texts bytes → P (texts_with texts bytes)

-- ---- statuses

-- the number of a status
abbrev pub number_of : Status → ℕ
number_of status.Done = 0
number_of status.NoRequest = 1
number_of status.ShelfFailed = 2
number_of status.ConsoleFailed = 3
number_of status.NoDatabase = 4
number_of status.NoText = 5
number_of status.NoProgram = 6
number_of status.TooWide = 7
number_of status.Trapped = 8
number_of status.NoMemory = 9
number_of status.StepsSpent = 10
number_of status.TooLong = 11
