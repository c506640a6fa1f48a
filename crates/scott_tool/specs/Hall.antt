-- `hall F N`: many sessions of a database are played from one list of lines.
use Rattle.std.specs.Prelude.{◌≡◌, ℕ, List, [], ◌∷◌, ◌++◌, Some, IfSome, Result, Ok, Err, OnOk}
use Rattle.std.specs.FinMap.{get}
use Rattle.adv_hall.specs.declared.halls.Seat.{Seat}
use Rattle.adv_hall.specs.Alone.{hall_text, hall_from, hall_events}
use Rattle.adv_hall.specs.Laws.{all_alone}
use Rattle.adv_io.specs.declared.consoles.Taken.{Taken}
use Rattle.adv_io.specs.declared.consoles.Taken.TheVariants.{Got, End}
use Rattle.adv_io.specs.declared.events.Event.TheVariants.{Take}
use Rattle.adv_io.specs.declared.faults.ConsoleFault.{ConsoleFault}
use Rattle.adv_io.specs.Console.{ConsoleView, Speaks, Lowers}
use Rattle.adv_io.specs.Faults.{HasCause}
use Rattle.adv_io.specs.History.{says, grown, GrewByPrefix}
use Rattle.adv_io.specs.Shelf.{Files}
use Rattle.scott_format.specs.File.{DatText}
use Rattle.scott_types.specs.Database.{Database}

-- What status 0 means: the file is a text of a database, and the console saw each line that was
-- taken, and after it what is said of it: of a session what it would say alone, in the plain style
-- and with draws of its own.
pub record HallPlayed (files : Files) (lines : List (List ℕ)) (game : List ℕ) (count : ℕ)
    (old new : ConsoleView) : Type 0 where
  pub bytes : List ℕ
  pub db : Database
  pub there : get files game ≡ Some bytes
  pub text : DatText bytes db
  pub seen : new.history ≡ grown old.history (hall_events db count lines)

-- ---- what the functions of the command promise each other

-- a line is answered by a hall whose sessions stand where they would alone after the lines before
-- it, and they stand so again
pub record AnswersLine (old new : ConsoleView) (db : Database) (count : ℕ)
    (before : List (List ℕ)) (line : List ℕ) (result : Result Unit ConsoleFault)
    (seats : List Seat) : Type 0 where
  pub spoken : Speaks old new result (says (hall_text db count before line))
  pub stands : OnOk result (seats ≡ all_alone db count (before ++ line ∷ []))

-- what was seen of the next of these lines
abbrev pub SawNext : (old new : ConsoleView) → Database → (count : ℕ) → (before : List (List ℕ))
    → Result Taken ConsoleFault → List Seat → Type 0
SawNext old new db count before (Ok Got) seats =
    (line : List ℕ) × (seats ≡ all_alone db count (before ++ line ∷ []))
    × IfSome old.left (λ lines. (rest : List (List ℕ)) × (lines ≡ line ∷ rest)
    × (new.left ≡ Some rest)
    × (new.history ≡ grown old.history (Take line ∷ says (hall_text db count before line))))
SawNext old new db count before (Ok End) seats =
    IfSome old.left (λ lines. (lines ≡ []) × (new.history ≡ old.history))
SawNext old new db count before (Err fault) seats =
    IfSome old.left
    (λ lines. GrewByPrefix old.history new.history (hall_from db count before lines))

-- the next line is taken and answered, or none is left
pub record HearsNext (old new : ConsoleView) (db : Database) (count : ℕ) (before : List (List ℕ))
    (result : Result Taken ConsoleFault) (seats : List Seat) : Type 0 where
  pub saw : SawNext old new db count before result seats
  pub bounded : Lowers old.bound new.bound result
  pub cause : HasCause old.faults new.faults result
