-- Where a play goes on from, and what is kept of one that stopped.
use Rattle.std.specs.Prelude.{◌≡◌, ℕ, ◌-◌, Bool, true, false, List, length, Option, Some, None, Result, Ok, Err}
use Rattle.adv_position.specs.Bad.{BadLine}
use Rattle.adv_position.specs.Reading.{position_in}
use Rattle.adv_position.specs.Text.{IsSaved, position_text}
use Rattle.adv_position.specs.declared.saved.Saved.{Saved}
use Rattle.scott_rules.specs.Play.{PlayEnd}
use Rattle.scott_types.specs.Database.{Database}
use Rattle.scott_types.specs.Limits.{KeepsLimits}
use Rattle.scott_types.specs.State.{start}
use Rattle.scott_types.specs.declared.endings.Position.{Position}
use Rattle.scott_types.specs.declared.endings.Position.TheVariants.{Fresh, Draw, Line, Over}
use Rattle.scott_types.specs.declared.states.State.{State}
use Rattle.scott_tool.specs.Refusal.{Unfit, unfit_by}
use Rattle.scott_tool.specs.declared.refusals.ContentFault.TheVariants.{NoPosition, NotAtPrompt}

-- ---- where a play goes on from

-- at its beginning nothing was taken
abbrev pub beginning : Database → Saved
beginning db = record { state = start db; position = Fresh; taken = 0 }

-- the position that a file has, or its first bad line
abbrev pub position_or_unfit : List ℕ → Result Saved ℕ → Result Saved Unfit
position_or_unfit name (Ok from) = Ok from
position_or_unfit name (Err line) = Err (unfit_by name (NoPosition (record { 0 = line })))

abbrev pub position_of_file : List ℕ → Database → List ℕ → Result Saved Unfit
position_of_file name db bytes = position_or_unfit name (position_in db bytes)

-- whether a play stands at its prompt, and not at a draw
abbrev pub is_at_prompt : Position → Bool
is_at_prompt Line = true
is_at_prompt _ = false

abbrev pub prompt_or_unfit : List ℕ → Saved → Bool → Result Saved Unfit
prompt_or_unfit name from true = Ok from
prompt_or_unfit name from false = Err (unfit_by name NotAtPrompt)

-- a position that stands at its prompt, or why the file that has it is refused
abbrev pub at_prompt_of_file : List ℕ → Saved → Result Saved Unfit
at_prompt_of_file name from = prompt_or_unfit name from (is_at_prompt from.position)

-- ---- the same by the bytes of the file

-- The bytes are the text of a play of the database that stopped, which keeps the limits as every
-- database does.
pub record HasPosition (db : Database) (bytes : List ℕ) (from : Saved) : Type 0 where
  pub read : position_in db bytes ≡ Ok from
  pub text : KeepsLimits db → IsSaved db from × (bytes ≡ position_text from)

-- the first of the eight lines that isn't as it is to be
pub record HasBadLine (db : Database) (bytes : List ℕ) (line : ℕ) : Type 0 where
  pub read : position_in db bytes ≡ Err line
  pub bad : KeepsLimits db → BadLine db bytes line

-- ---- what is kept of a play that stopped

-- the text of where it stopped, where so many draws are gone; none where the game is over
abbrev pub kept_text : Position → State → ℕ → Option (List ℕ)
kept_text Fresh s gone = None
kept_text (Draw head) s gone =
    Some (position_text (record { state = s; position = Draw head; taken = gone }))
kept_text Line s gone = Some (position_text (record { state = s; position = Line; taken = gone }))
kept_text (Over ending) s gone = None

-- of a play that was given these draws at first: those are gone that aren't left
abbrev pub stopped_text : List ℕ → PlayEnd → Option (List ℕ)
stopped_text draws end = kept_text end.position end.state (length draws - length end.draws)
