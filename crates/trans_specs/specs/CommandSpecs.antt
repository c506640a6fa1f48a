-- The specifications of the search for a command's lines and of the command itself.
use Rattle.std.specs.Prelude.{◌≡◌, ℕ, ◌+◌, ◌*◌, ◌<◌, ◌≤◌, ℤ, pos, List, [], ◌∷◌, length, codes, Option, Some, None}
use Rattle.adv_io.specs.Steps.{Step, Traced}
use Rattle.inform_meaning.specs.Worlds.{Program}
use Rattle.inform_logic.specs.Stages.{Stage}
use Rattle.scott_types.specs.declared.states.State.{State}
use Rattle.scott_types.specs.declared.endings.Found.{Found}
use Rattle.scott_types.specs.declared.endings.Found.TheVariants.{NoMatch, Matched, Done, Over}
use Rattle.scott_types.specs.Database.{Database}
use Rattle.scott_types.specs.Style.{Game}
use Rattle.scott_rules.specs.Progress.{Progress}
use Rattle.scott_rules.specs.Groups.{groups}
use Rattle.scott_rules.specs.Search.{SearchOutcome, search_result}
use Rattle.scott_rules.specs.Rounds.{command_result}
use Rattle.trans_specs.specs.Tables.{or_zero}
use Rattle.trans_specs.specs.Standing.{StandsFor}
use Rattle.trans_specs.specs.Steps.{highest, share, turn_share}
use Rattle.trans_specs.specs.Calls.{CallLeaves, CallEndsGame}

-- what a search may take: each action line is in one group at most, and is tried once
abbrev pub search_steps : Database → ℕ
search_steps db = (highest db.actions + 2) * (110 * share db)

-- what a command may take: a search for itself, and one for each item
abbrev pub command_steps : Database → ℕ
command_steps db = 300 * turn_share db

-- ---- nouns

-- a noun that a line can name is an entry from 1 on; it stands as its number, and no noun as 0
abbrev pub IsNoun : Database → Option ℕ → Type 0
IsNoun db None = Unit {0}
IsNoun db (Some noun) = (0 < noun) × (noun < length db.words)

-- ---- the search

-- what became of it: 0 for no head, 1 for one that didn't pass, 2 for one that did, or the game
-- ends
abbrev pub SearchFinds : Found → Game → Program → ℕ → List ℕ → List ℤ → Stage → List ℕ
    → Traced Step SearchOutcome → Type 0
SearchFinds NoMatch game p d name values w noun t = CallLeaves p d name values w (pos 0) game.db
    t.value.state noun t.events (search_steps game.db)
SearchFinds Matched game p d name values w noun t = CallLeaves p d name values w (pos 1) game.db
    t.value.state noun t.events (search_steps game.db)
SearchFinds Done game p d name values w noun t = CallLeaves p d name values w (pos 2) game.db
    t.value.state noun t.events (search_steps game.db)
SearchFinds (Over ending) game p d name values w noun t = CallEndsGame p d name values w
    t.value.state t.events ending (search_steps game.db)

-- so many calls may be opened where it begins
abbrev pub search_room : ℕ
search_room = 125

-- a verb from 1 on and a noun are its arguments, and the noun text is that of the line
abbrev pub SearchSpec : Game → Program → List ℕ → Type 0
SearchSpec game p name = (verb : ℕ) (noun : Option ℕ) (s : State) (typed : List ℕ) (w : Stage)
    (d : ℕ) → search_room ≤ d → 0 < verb → IsNoun game.db noun → StandsFor game.db s typed w
    → let t = search_result game typed verb noun (groups game.db) s in
    SearchFinds t.value.found game p d name (pos verb ∷ pos (or_zero noun) ∷ []) w typed t

-- ---- the command

-- it returns, with some value, and the game goes on, or the game ends
pub record CommandReturns (game : Game) (p : Program) (d : ℕ) (name : List ℕ) (w : Stage)
    (typed : List ℕ) (t : Traced Step Progress) : Type 0 where
  pub value : ℤ
  pub leaves : CallLeaves p d name [] w value game.db t.value.state typed t.events
      (command_steps game.db)

abbrev pub CommandEnds : Option ℕ → Game → Program → ℕ → List ℕ → Stage → List ℕ
    → Traced Step Progress → Type 0
CommandEnds None game p d name w typed t = CommandReturns game p d name w typed t
CommandEnds (Some ending) game p d name w typed t =
    CallEndsGame p d name [] w t.value.state t.events ending (command_steps game.db)

-- so many calls may be opened where it begins
abbrev pub command_room : ℕ
command_room = 130

-- the verb and the noun that were heard stand in their globals
abbrev pub CommandSpec : Game → Program → List ℕ → Type 0
CommandSpec game p name = (verb : ℕ) (noun : Option ℕ) (s : State) (typed : List ℕ) (w : Stage)
    (d : ℕ) → command_room ≤ d → 0 < verb → IsNoun game.db noun
    → w.globals (codes "vnum") ≡ Some (pos verb)
    → w.globals (codes "nnum") ≡ Some (pos (or_zero noun)) → StandsFor game.db s typed w
    → let t = command_result game typed verb noun s in
    CommandEnds t.value.over game p d name w typed t
