-- Where a play can stand, and that it stands nowhere else.
use Rattle.std.specs.Prelude.{ℕ, nat_lt, ◌&&◌, Bool, List, length, IsTrue}
use Rattle.scott_types.specs.declared.states.State.{State}
use Rattle.scott_types.specs.declared.endings.Position.{Position}
use Rattle.scott_types.specs.declared.endings.Position.TheVariants.{Draw, Over}
use Rattle.scott_types.specs.Database.{Database, action_at}
use Rattle.scott_types.specs.Style.{Game}
use Rattle.scott_rules.specs.Rounds.{advance, answer}
use Rattle.scott_rules.specs.Play.{go}
use Rattle.scott_rules.specs.Laws.{IsEnding}
use Rattle.scott_turn.specs.Heads.{is_head_of}

-- a line is a head of verb 0
abbrev pub is_automatic : Database → ℕ → Bool
is_automatic db head = nat_lt head (length db.actions) && is_head_of 0 (action_at db head)

-- a draw is waited for by a head of verb 0, and a game that is over ended with 1, 2 or 3
abbrev pub CanStand : Database → Position → Type 0
CanStand db (Draw head) = IsTrue (is_automatic db head)
CanStand db (Over ending) = IsEnding ending
CanStand db _ = Unit

-- what is done up to the prompt ends where a play can stand
abbrev pub AdvanceStands : Type 0
AdvanceStands = (game : Game) (position : Position) (s : State) (draws : List ℕ)
    → CanStand game.db position → CanStand game.db (advance game position s draws).value.position

-- so does the answer to a line
abbrev pub AnswerStands : Type 0
AnswerStands =
    (game : Game) (line : List ℕ) (s : State)
    → CanStand game.db (answer game line s).value.position

-- and a whole play
abbrev pub PlayStands : Type 0
PlayStands =
    (game : Game) (position : Position) (s : State) (lines : List (List ℕ)) (draws : List ℕ)
    → CanStand game.db position
    → CanStand game.db (go game position s lines draws).value.position
