-- `run G` and `calls G` where the file is a translation: they show the play of the database, and
-- what `cover` says of it.
use Rattle.std.specs.Prelude.{◌≡◌, ◌≤◌, ℕ, List, length, Some, None}
use Rattle.std.specs.FinMap.{get}
use Rattle.std.specs.List.{AllByRecursion}
use Rattle.adv_io.specs.Console.{ConsoleView}
use Rattle.adv_io.specs.History.{grown, shown}
use Rattle.adv_io.specs.Shelf.{Files}
use Rattle.adv_io.specs.Steps.{trace_of}
use Rattle.adv_io.specs.TypedLine.{IsTyped}
use Rattle.inform_tree.specs.declared.widths.Width.{Width}
use Rattle.scott_requests.specs.Settings.{DrawSource}
use Rattle.scott_rules.specs.Play as rules
use Rattle.scott_types.specs.declared.styles.Style.{Style}
use Rattle.scott_types.specs.Database.{Database}
use Rattle.scott_types.specs.Style.{in_style}
use Rattle.trans_specs.specs.Steps.{enough}
use Rattle.translator.specs.Faithful.{Faithful}
use Rattle.scott_tool.specs.Cover.{covered_play, covered_events}
use Rattle.scott_tool.specs.Draws.{DrawsAre}

-- The file of this name is the text of a program that is faithful to a database in this style, as
-- `translate` stores it; the lines are typed ones, and the steps are enough for them.
pub record IsReplay (files : Files) (lines : List (List ℕ)) (name : List ℕ) (steps : ℕ)
    (width : Width) (style : Style) (db : Database) : Type 0 where
  pub bytes : List ℕ
  pub there : get files name ≡ Some bytes
  pub faithful : Faithful style width db None bytes
  pub typed : AllByRecursion IsTyped lines
  pub enough_steps : enough db (length lines) ≤ steps

-- with these draws the console saw what the play of the database says and takes
abbrev pub SawPlay : Files → List (List ℕ) → DrawSource → Style → Database
    → (old new : ConsoleView) → Type 0
SawPlay files lines source style db old new =
    (draws : List ℕ) × DrawsAre files source draws
    × (new.history
    ≡ grown old.history (shown (trace_of (rules.play (in_style style db) lines draws).events)))

-- the same, and then how often each of its action lines was tried
abbrev pub SawCover : Files → List (List ℕ) → DrawSource → Style → Database
    → (old new : ConsoleView) → Type 0
SawCover files lines source style db old new =
    (draws : List ℕ) × DrawsAre files source draws
    × (new.history ≡ grown old.history (covered_events db (covered_play style db draws lines)))

-- a run doesn't end in a trap or for want of steps, and with 0 this was seen
pub record ComesToAnEnd (Seen : Type 0) (status : ℕ) : Type 0 where
  pub no_trap : ¬ (status ≡ 8)
  pub not_spent : ¬ (status ≡ 10)
  pub seen : status ≡ 0 → Seen

-- what `run` does on such a file
abbrev pub Replayed : Files → List (List ℕ) → DrawSource → Style → Database
    → (old new : ConsoleView) → (status : ℕ) → Type 0
Replayed files lines source style db old new status =
    ComesToAnEnd (SawPlay files lines source style db old new) status

-- and what `calls` does: it has shown what `cover` shows of the database
abbrev pub Recounted : Files → List (List ℕ) → DrawSource → Style → Database
    → (old new : ConsoleView) → (status : ℕ) → Type 0
Recounted files lines source style db old new status =
    ComesToAnEnd (SawCover files lines source style db old new) status
