-- The specifications of the routines of texts and of the light: said from a stage that stands for a
-- state and a noun text, with at most 100 calls open.
use Rattle.std.specs.Prelude.{ℕ, ◌<◌, ◌≤◌, ℤ, pos, List, [], length}
use Rattle.adv_io.specs.Steps.{said_steps}
use Rattle.inform_meaning.specs.Worlds.{Program}
use Rattle.inform_logic.specs.Stages.{Stage, said}
use Rattle.inform_logic.specs.Leading.{Does}
use Rattle.scott_types.specs.declared.states.State.{State}
use Rattle.scott_types.specs.Style.{Game}
use Rattle.scott_rules.specs.Looking.{looked, inventory, scored, all_stored}
use Rattle.scott_rules.specs.Light.{light_counted}
use Rattle.scott_rules.specs.Opcodes.{said_message}
use Rattle.trans_specs.specs.Tables.{bit}
use Rattle.trans_specs.specs.Standing.{StandsFor}
use Rattle.trans_specs.specs.Steps.{text_steps}
use Rattle.trans_specs.specs.Names.{message_name}
use Rattle.trans_specs.specs.Programs.{HasRoutine}
use Rattle.trans_specs.specs.Calls.{CallSays, CallLeaves}

-- so many calls may be opened where at most 100 of 200 are open
abbrev pub text_room : ℕ
text_room = 100

-- a routine without arguments says what the rules say of the state, and returns
abbrev pub SaysOf : Game → Program → List ℕ → (State → List ℕ) → Type 0
SaysOf game p name text = (s : State) (noun : List ℕ) (w : Stage) (d : ℕ) → text_room ≤ d
    → StandsFor game.db s noun w → CallSays p d name [] w (text s) (text_steps game.db)

-- each message that is there, where the program has its routine
abbrev pub MessageSpec : Game → Program → Type 0
MessageSpec game p = (m : ℕ) → m < length game.db.messages → HasRoutine p (message_name m)
    → SaysOf game p (message_name m) (λ s. said_message game.db m)

abbrev pub LookSpec : Game → Program → List ℕ → Type 0
LookSpec game p name = SaysOf game p name (looked game)

abbrev pub InventorySpec : Game → Program → List ℕ → Type 0
InventorySpec game p name = SaysOf game p name (inventory game)

-- the score gives 1 where all treasures are stored, and else 0
abbrev pub ScoreSpec : Game → Program → List ℕ → Type 0
ScoreSpec game p name = (s : State) (noun : List ℕ) (w : Stage) (d : ℕ) → text_room ≤ d
    → StandsFor game.db s noun w
    → Does p d name [] w (pos (bit (all_stored game.db s))) (said (scored game s) w)
    (text_steps game.db)

-- a turn of the light
pub record LightCounted (game : Game) (p : Program) (name : List ℕ) (s : State) (noun : List ℕ)
    (w : Stage) (d : ℕ) : Type 0 where
  pub value : ℤ
  pub gives : CallLeaves p d name [] w value game.db (light_counted game.style s).value noun
      (said_steps (light_counted game.style s).events) (text_steps game.db)

abbrev pub LightSpec : Game → Program → List ℕ → Type 0
LightSpec game p name = (s : State) (noun : List ℕ) (w : Stage) (d : ℕ) → text_room ≤ d
    → StandsFor game.db s noun w → LightCounted game p name s noun w d

-- all of them, by the names of the four routines
pub record DataSpecs (game : Game) (p : Program) (look lists score light : List ℕ) : Type 0 where
  pub messages : MessageSpec game p
  pub looks : LookSpec game p look
  pub carries : InventorySpec game p lists
  pub scores : ScoreSpec game p score
  pub burns : LightSpec game p light
