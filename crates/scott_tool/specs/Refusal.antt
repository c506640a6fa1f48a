-- Why a request isn't done: its status, and the line that is said of it.
use Rattle.std.specs.Prelude.{ℕ, List, [], ◌∷◌, ◌++◌, Result, Ok, Err, codes, decimal}
use Rattle.std.specs.List.{flat_map}
use Rattle.adv_compiler.specs.FaultTexts as compiler
use Rattle.adv_draws.specs.Texts as draws
use Rattle.scott_format.specs.FaultTexts as format
use Rattle.inform_reader.specs.FaultTexts as program
use Rattle.source_reader.specs.FaultTexts as source
use Rattle.translator.specs.FaultTexts as translator
use Rattle.scott_tool.specs.declared.refusals.ContentFault.{ContentFault}
use Rattle.scott_tool.specs.declared.refusals.ContentFault.TheVariants.{NoDatabase, NoSource, NoMeaning, NoDraws, NoPosition, NotAtPrompt, NoProgram, NoRoutine, NoTranslation}

-- what is wrong with a content: it is no database; no source of one, no draws, or no position that
-- serves; no program that is accepted, or one without the routine that is named; or it has a number
-- that is too wide
pub data Flaw : Type 0 where
  bad_database : Flaw
  bad_text : Flaw
  bad_program : Flaw
  bad_width : Flaw

-- the content of the file of this name is refused: what is wrong, and the words that are said of it
pub record Unfit : Type 0 where
  pub name : List ℕ
  pub flaw : Flaw
  pub words : List (List ℕ)

-- the words are no request; a file can't be read, is longer than its limit, has a fault, or can't
-- be written
pub data Refusal : Type 0 where
  no_request : Refusal
  unread : List ℕ → Refusal
  too_long : List ℕ → ℕ → Refusal
  unfit : Unfit → Refusal
  unwritten : List ℕ → Refusal

-- a content's fault is one of the refusals
abbrev pub refusing : {X : Type 0} → Result X Unfit → Result X Refusal
refusing (Ok x) = Ok x
refusing (Err u) = Err (unfit u)

-- ---- statuses

abbrev pub flaw_status : Flaw → ℕ
flaw_status bad_database = 4
flaw_status bad_text = 5
flaw_status bad_program = 6
flaw_status bad_width = 7

abbrev pub status_of : Refusal → ℕ
status_of no_request = 1
status_of (unread name) = 2
status_of (too_long name limit) = 11
status_of (unfit u) = flaw_status u.flaw
status_of (unwritten name) = 2

-- ---- lines, in pieces

-- how the program is called
unfoldable pub usage : List ℕ
usage =
    codes "usage: scott check F | compile S F | decompile F S | play F | translate F G | run G"
    ++ codes " | demo N | hall F N | transfer F P G | simplify G H | step G | cover F | calls G\n"

unfoldable pub cannot_read : List ℕ
cannot_read = codes "cannot read "

unfoldable pub cannot_write : List ℕ
cannot_write = codes "cannot write "

unfoldable pub after_name : List ℕ
after_name = codes ": "

unfoldable pub longer_than : List ℕ
longer_than = codes ": longer than "

unfoldable pub bytes_end : List ℕ
bytes_end = codes " bytes\n"

unfoldable pub line_end : List ℕ
line_end = codes "\n"

unfoldable pub no_position : List ℕ
no_position = codes "not a position in line "

unfoldable pub waits_for_draw : List ℕ
waits_for_draw = codes "waits for a draw"

unfoldable pub no_routine : List ℕ
no_routine = codes "no routine "

abbrev pub whole : List (List ℕ) → List ℕ
whole pieces = flat_map (λ piece. piece) pieces

-- the one line that is said
abbrev pub line_of : Refusal → List ℕ
line_of no_request = usage
line_of (unread name) = whole (cannot_read ∷ name ∷ line_end ∷ [])
line_of (too_long name limit) = whole (name ∷ longer_than ∷ decimal limit ∷ bytes_end ∷ [])
line_of (unfit u) = whole (u.name ∷ after_name ∷ (u.words ++ (line_end ∷ [])))
line_of (unwritten name) = whole (cannot_write ∷ name ∷ line_end ∷ [])

-- ---- the faults that the readers of contents find

abbrev pub flaw_of : ContentFault → Flaw
flaw_of (NoDatabase fault) = bad_database
flaw_of (NoSource fault) = bad_text
flaw_of (NoMeaning fault) = bad_text
flaw_of (NoDraws fault) = bad_text
flaw_of (NoPosition fault) = bad_text
flaw_of NotAtPrompt = bad_text
flaw_of (NoProgram fault) = bad_program
flaw_of (NoRoutine name) = bad_program
flaw_of (NoTranslation fault) = bad_width

abbrev pub content_pieces : ContentFault → List (List ℕ)
content_pieces (NoDatabase fault) = format.fault_pieces fault
content_pieces (NoSource fault) = source.fault_pieces fault
content_pieces (NoMeaning fault) = compiler.fault_pieces fault
content_pieces (NoDraws fault) = draws.fault_pieces fault
content_pieces (NoPosition fault) = no_position ∷ decimal fault.0 ∷ []
content_pieces NotAtPrompt = waits_for_draw ∷ []
content_pieces (NoProgram fault) = program.fault_pieces fault
content_pieces (NoRoutine name) = no_routine ∷ name.now ∷ []
content_pieces (NoTranslation fault) = translator.fault_pieces fault

-- the content of the file of this name has this fault
abbrev pub unfit_by : List ℕ → ContentFault → Unfit
unfit_by name fault = record { name = name; flaw = flaw_of fault; words = content_pieces fault }
