-- What becomes of a call of a routine of a translated game.
use Rattle.std.specs.Prelude.{◌≡◌, ℕ, ℤ, pos, List, ◌++◌, codes, Some}
use Rattle.adv_io.specs.Steps.{Step}
use Rattle.inform_meaning.specs.Worlds.{Program}
use Rattle.inform_meaning.specs.Frames.{Quits, Lack}
use Rattle.inform_meaning.specs.Runs.{Halted, Lacking}
use Rattle.inform_logic.specs.Stages.{Stage, said}
use Rattle.inform_logic.specs.Leading.{Does}
use Rattle.inform_logic.specs.Stopping.{CallStops}
use Rattle.scott_types.specs.declared.states.State.{State}
use Rattle.scott_types.specs.Database.{Database}
use Rattle.trans_specs.specs.Views.{Shows, shown_globals, shown_arrays}
use Rattle.trans_specs.specs.Standing.{StandsFor}
use Rattle.trans_specs.specs.Programs.{IsOther}

-- it says these bytes and returns, and nothing else happens
pub record CallSays (p : Program) (d : ℕ) (name : List ℕ) (values : List ℤ) (w : Stage)
    (bytes : List ℕ) (most : ℕ) : Type 0 where
  pub value : ℤ
  pub does : Does p d name values w value (said bytes w) most

-- A stage stands for this state and noun text, these steps were done before it, and what shows no
-- state is as it was.
pub record StageLeft (db : Database) (s : State) (noun : List ℕ) (steps : List Step) (w w' : Stage)
    : Type 0 where
  pub stands : StandsFor db s noun w'
  pub past_is : w'.past ≡ w.past ++ steps
  pub lines_stay : w'.lines ≡ w.lines
  pub draws_stay : w'.draws ≡ w.draws
  pub globals_stay : (name : List ℕ) → IsOther name shown_globals
      → w'.globals name ≡ w.globals name
  pub arrays_stay : (name : List ℕ) → IsOther name shown_arrays → w'.arrays name ≡ w.arrays name

-- it returns this value, and leaves this state and noun text
pub record CallLeaves (p : Program) (d : ℕ) (name : List ℕ) (values : List ℤ) (w : Stage) (v : ℤ)
    (db : Database) (s : State) (noun : List ℕ) (steps : List Step) (most : ℕ) : Type 0 where
  pub after : Stage
  pub does : Does p d name values w v after most
  pub leaves : StageLeft db s noun steps w after

-- the game ends: the run is over, the stage shows this state, and `over` is the ending
pub record CallEndsGame (p : Program) (d : ℕ) (name : List ℕ) (values : List ℤ) (w : Stage)
    (s : State) (steps : List Step) (ending : ℕ) (most : ℕ) : Type 0 where
  pub after : Stage
  pub stops : CallStops p d name values w (Halted Quits) after most
  pub shows : Shows s after
  pub past_is : after.past ≡ w.past ++ steps
  pub over_is : after.globals (codes "over") ≡ Some (pos ending)

-- the run waits, the stage shows this state, and `over` is as it was
pub record CallWaits (p : Program) (d : ℕ) (name : List ℕ) (values : List ℤ) (w : Stage)
    (lack : Lack) (s : State) (steps : List Step) (most : ℕ) : Type 0 where
  pub after : Stage
  pub stops : CallStops p d name values w (Lacking lack) after most
  pub shows : Shows s after
  pub past_is : after.past ≡ w.past ++ steps
  pub over_stays : after.globals (codes "over") ≡ w.globals (codes "over")
