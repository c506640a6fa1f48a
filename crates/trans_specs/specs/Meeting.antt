-- Directives meet specifications: each program that has them has routines that do.
use Rattle.std.specs.Prelude.{◌≡◌, ℕ, ℤ, List, None}
use Rattle.inform_tree.specs.declared.widths.Width.{Width}
use Rattle.inform_tree.specs.Programs.{DirectiveTree}
use Rattle.inform_meaning.specs.Worlds.{Program}
use Rattle.scott_types.specs.declared.endings.Position.{Position}
use Rattle.scott_types.specs.declared.endings.Position.TheVariants.{Fresh, Line}
use Rattle.scott_types.specs.Database.{Database}
use Rattle.scott_types.specs.Limits.{KeepsLimits}
use Rattle.scott_types.specs.Style.{Game}
use Rattle.trans_specs.specs.Wide.{wide_at}
use Rattle.trans_specs.specs.Programs.{Serves}
use Rattle.trans_specs.specs.DataSpecs.{DataSpecs}
use Rattle.trans_specs.specs.WordSpecs.{ReaderSpec}
use Rattle.trans_specs.specs.ActionSpecs.{LineSpec}
use Rattle.trans_specs.specs.TurnSpecs.{RoundSpec, MainSpec}

-- a game that can be translated at a width
pub record Translates (width : Width) (db : Database) : Type 0 where
  pub limits : KeepsLimits db
  pub none_wide : wide_at width db ≡ None

-- the arrays and texts: the routines of look, inventory, score and light by their names
abbrev pub MeetDataSpecs : Width → Game → List DirectiveTree → List ℕ → List ℕ → List ℕ → List ℕ
    → Type 0
MeetDataSpecs width game ds look lists score light = (p : Program) → Translates width game.db
    → Serves width ds p → DataSpecs game p look lists score light

-- the word reader, at either width
abbrev pub MeetReaderSpec : Database → List DirectiveTree → List ℕ → Type 0
MeetReaderSpec db ds reader = (p : Program) (width : Width) → KeepsLimits db → Serves width ds p
    → ReaderSpec db p reader

-- how a round is called, as a whole and after its prompt
pub record RoundCalls : Type 0 where
  pub name : List ℕ
  pub whole : List ℤ
  pub rest : List ℤ

-- a round, the rest of a round after its prompt, and all rounds from where the game opens
pub record TurnSpecs (game : Game) (p : Program) (calls : RoundCalls) (begin : Position) : Type 0
  where
    pub whole_round : RoundSpec game p calls.name calls.whole Fresh
    pub rest_of_round : RoundSpec game p calls.name calls.rest Line
    pub all_rounds : MainSpec game p begin

-- the turn, where in the program each line and the word reader meet their specifications
abbrev pub MeetTurnSpecs : Width → Game → List DirectiveTree → List ℕ → RoundCalls → Position
    → Type 0
MeetTurnSpecs width game ds reader calls begin = (p : Program) → Translates width game.db
    → Serves width ds p → LineSpec game p → ReaderSpec game.db p reader
    → TurnSpecs game p calls begin
