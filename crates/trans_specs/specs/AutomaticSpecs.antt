-- The specification of the automatic step.
use Rattle.std.specs.Prelude.{◌≡◌, ℕ, ◌≤◌, ℤ, List, [], ◌++◌, codes}
use Rattle.adv_io.specs.Steps.{Step, Traced}
use Rattle.inform_meaning.specs.Worlds.{Program}
use Rattle.inform_meaning.specs.Frames.{NeedsDraw}
use Rattle.inform_logic.specs.Stages.{Stage}
use Rattle.inform_logic.specs.Leading.{Does}
use Rattle.scott_types.specs.declared.states.State.{State}
use Rattle.scott_types.specs.declared.endings.Halt.{Halt}
use Rattle.scott_types.specs.declared.endings.Halt.TheVariants.{Through, Waits, Over as AtEnd}
use Rattle.scott_types.specs.Database.{Database}
use Rattle.scott_types.specs.Style.{Game}
use Rattle.scott_rules.specs.Groups.{AutoOutcome, groups, automatic}
use Rattle.trans_specs.specs.Standing.{StandsFor}
use Rattle.trans_specs.specs.Calls.{CallEndsGame, CallWaits}
use Rattle.trans_specs.specs.CommandSpecs.{search_steps}
use Rattle.trans_specs.specs.TurnSpecs.{FairStage}

-- it came through: the stage stands for the new state and some noun text
pub record AutomaticLeaves (db : Database) (w w' : Stage) (t : Traced Step AutoOutcome) : Type 0
  where
    pub noun : List ℕ
    pub stands : StandsFor db t.value.state noun w'
    pub past_is : w'.past ≡ w.past ++ t.events
    pub lines_stay : w'.lines ≡ w.lines
    pub draws_left : w'.draws ≡ t.value.draws
    pub over_stays : w'.globals (codes "over") ≡ w.globals (codes "over")

pub record AutomaticDone (p : Program) (d : ℕ) (name : List ℕ) (w : Stage) (db : Database)
    (t : Traced Step AutoOutcome) (most : ℕ) : Type 0 where
  pub value : ℤ
  pub after : Stage
  pub does : Does p d name [] w value after most
  pub leaves : AutomaticLeaves db w after t

-- what became of it: it came through, a draw is wanted, or the game ends
abbrev pub AutomaticHalts : Halt → Program → ℕ → List ℕ → Stage → Database
    → Traced Step AutoOutcome → ℕ → Type 0
AutomaticHalts Through p d name w db t most = AutomaticDone p d name w db t most
AutomaticHalts (Waits head) p d name w db t most =
    CallWaits p d name [] w NeedsDraw t.value.state t.events most
AutomaticHalts (AtEnd ending) p d name w db t most =
    CallEndsGame p d name [] w t.value.state t.events ending most

-- so many calls may be opened where it begins
abbrev pub automatic_room : ℕ
automatic_room = 130

abbrev pub AutomaticSpec : Game → Program → List ℕ → Type 0
AutomaticSpec game p name = (s : State) (noun : List ℕ) (w : Stage) (d : ℕ) → automatic_room ≤ d
    → FairStage w → StandsFor game.db s noun w
    → let t = automatic game (groups game.db) s w.draws in
    AutomaticHalts t.value.halt p d name w game.db t (search_steps game.db)
