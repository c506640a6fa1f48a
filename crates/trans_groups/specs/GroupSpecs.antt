-- The specification of the routine of a group.
use Rattle.std.specs.Prelude.{ℕ, ◌+◌, ◌*◌, ◌≤◌, pos, List, [], length}
use Rattle.adv_io.specs.Steps.{Step}
use Rattle.inform_meaning.specs.Worlds.{Program}
use Rattle.inform_logic.specs.Stages.{Stage}
use Rattle.scott_types.specs.declared.states.State.{State}
use Rattle.scott_types.specs.declared.endings.Ran.{Ran}
use Rattle.scott_types.specs.declared.endings.Ran.TheVariants.{Not, Passed, Over}
use Rattle.scott_types.specs.Database.{Database}
use Rattle.scott_types.specs.Style.{Game}
use Rattle.scott_rules.specs.Groups.{Group, group_tried}
use Rattle.trans_specs.specs.Standing.{StandsFor}
use Rattle.trans_specs.specs.Steps.{line_steps}
use Rattle.trans_specs.specs.Names.{group_name}
use Rattle.trans_specs.specs.Calls.{CallLeaves, CallEndsGame}
use Rattle.trans_specs.specs.ActionSpecs.{passed_value}

-- what a group may take: each line of it, and a call of each
abbrev pub group_steps : Database → Group → ℕ
group_steps db g = (length g.tail + 1) * (line_steps db + 2) + 4

-- What became of a call: it gives 0 where the line or the head doesn't pass, and 1 or 2 where it
-- does, and it ends the run where it ends the game.
abbrev pub CallRan : Ran → Database → Program → ℕ → List ℕ → Stage → List ℕ → State → List Step → ℕ
    → Type 0
CallRan Not db p d name w noun s steps most = CallLeaves p d name [] w (pos 0) db s noun steps most
CallRan (Passed more) db p d name w noun s steps most =
    CallLeaves p d name [] w (pos (passed_value more)) db s noun steps most
CallRan (Over ending) db p d name w noun s steps most =
    CallEndsGame p d name [] w s steps ending most

-- so many calls may be opened where it begins
abbrev pub group_room : ℕ
group_room = 121

-- a group, tried from a stage that stands for a state and a noun text
abbrev pub GroupSpec : Game → Program → Group → Type 0
GroupSpec game p g = (s : State) (noun : List ℕ) (w : Stage) (d : ℕ) → group_room ≤ d
    → StandsFor game.db s noun w
    → let t = group_tried game noun g s in
    CallRan t.value.ran game.db p d (group_name g.head) w noun t.value.state t.events
    (group_steps game.db g)
