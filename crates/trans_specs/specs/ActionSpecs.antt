-- The specification of the routine of an action line.
use Rattle.std.specs.Prelude.{◌≡◌, ℕ, ◌<◌, ◌≤◌, pos, Bool, true, false, List, [], length}
use Rattle.adv_io.specs.Steps.{Step, Traced}
use Rattle.inform_meaning.specs.Worlds.{Program}
use Rattle.inform_logic.specs.Stages.{Stage}
use Rattle.scott_types.specs.declared.states.State.{State}
use Rattle.scott_types.specs.declared.endings.Ran.{Ran}
use Rattle.scott_types.specs.declared.endings.Ran.TheVariants.{Not, Passed, Over}
use Rattle.scott_types.specs.Database.{Database, action_at}
use Rattle.scott_types.specs.Style.{Game}
use Rattle.scott_types.specs.Action.{is_zero_action}
use Rattle.scott_rules.specs.Actions.{ActionOutcome, try_action}
use Rattle.trans_specs.specs.Standing.{StandsFor}
use Rattle.trans_specs.specs.Steps.{line_steps}
use Rattle.trans_specs.specs.Names.{line_name}
use Rattle.trans_specs.specs.Calls.{CallLeaves, CallEndsGame}

-- a line that has a routine: it is there, and not all zeros
pub record HasLineRoutine (db : Database) (k : ℕ) : Type 0 where
  pub there : k < length db.actions
  pub not_zero : is_zero_action (action_at db k) ≡ false

-- 2 where the tail is tried, and else 1
abbrev pub passed_value : Bool → ℕ
passed_value true = 2
passed_value false = 1

-- What became of the line: it gives 0 where it doesn't pass, and 1 or 2 where it does, and it ends
-- the run where it ends the game. Its own number is the only one that is noted.
abbrev pub LineOutcome : Ran → Game → Program → ℕ → ℕ → Stage → List ℕ
    → Traced Step ActionOutcome → Type 0
LineOutcome Not game p d k w noun t = CallLeaves p d (line_name k) [] w (pos 0) game.db
    t.value.state noun t.events (line_steps game.db)
LineOutcome (Passed more) game p d k w noun t = CallLeaves p d (line_name k) [] w
    (pos (passed_value more)) game.db t.value.state noun t.events (line_steps game.db)
LineOutcome (Over ending) game p d k w noun t = CallEndsGame p d (line_name k) [] w t.value.state
    t.events ending (line_steps game.db)

abbrev pub LineDone : Game → Program → ℕ → ℕ → Stage → List ℕ → Traced Step ActionOutcome → Type 0
LineDone game p d k w noun t = LineOutcome t.value.ran game p d k w noun t

-- so many calls may be opened where at most 80 of 200 are open
abbrev pub line_room : ℕ
line_room = 120

-- each line that has a routine, said from a stage that stands for a state and a noun text
abbrev pub LineSpec : Game → Program → Type 0
LineSpec game p = (k : ℕ) (s : State) (noun : List ℕ) (w : Stage) (d : ℕ) → line_room ≤ d
    → HasLineRoutine game.db k → StandsFor game.db s noun w
    → LineDone game p d k w noun (try_action game noun k s)
