-- The specifications of the routines of a round, where the routines that they call meet theirs.
use Rattle.std.specs.Prelude.{pos, [], ◌∷◌, ◌++◌, codes}
use Rattle.inform_tree.specs.declared.widths.Width.{Width}
use Rattle.inform_meaning.specs.Worlds.{Program}
use Rattle.scott_types.specs.declared.endings.Position.{Position}
use Rattle.scott_types.specs.declared.endings.Position.TheVariants.{Fresh, Line}
use Rattle.scott_types.specs.declared.styles.Style.{Style}
use Rattle.scott_types.specs.Database.{Database}
use Rattle.scott_types.specs.Style.{Game, in_style}
use Rattle.trans_specs.specs.Programs.{Serves}
use Rattle.trans_specs.specs.DataSpecs.{LookSpec, LightSpec}
use Rattle.trans_specs.specs.WordSpecs.{ReaderSpec}
use Rattle.trans_specs.specs.CommandSpecs.{CommandSpec}
use Rattle.trans_specs.specs.AutomaticSpecs.{AutomaticSpec}
use Rattle.trans_specs.specs.Meeting.{Translates, RoundCalls, TurnSpecs, MeetTurnSpecs}
use Rattle.trans_data.specs.Texts.{text_directives}
use Rattle.trans_turn.specs.Routines.{round_directives, turn_directives}

-- the routines that a round calls meet their specifications
pub record RoundParts (game : Game) (p : Program) : Type 0 where
  pub looks : LookSpec game p (codes "look")
  pub reads : ReaderSpec game.db p (codes "hear")
  pub commands : CommandSpec game p (codes "command")
  pub burns : LightSpec game p (codes "burn")
  pub steps : AutomaticSpec game p (codes "automatic")

-- how a round is called: it is told whether its prompt was said
abbrev pub round_calls : RoundCalls
round_calls = record { name = codes "round"; whole = pos 0 ∷ []; rest = pos 1 ∷ [] }

-- a game opens where a round begins, or after a prompt
abbrev pub IsOpening : Position → Type 0
IsOpening Fresh = Unit {0}
IsOpening Line = Unit {0}
IsOpening _ = ⊥

-- a round, the rest of one, and all rounds
abbrev pub RoundsMeetSpecs : Type 0
RoundsMeetSpecs = (width : Width) (game : Game) (begin : Position) (p : Program) → IsOpening begin
    → Translates width game.db → Serves width (round_directives begin) p → RoundParts game p
    → TurnSpecs game p round_calls begin

-- All of a turn, where the program has the texts too.
abbrev pub TurnMeetsSpecs : Type 0
TurnMeetsSpecs = (style : Style) (width : Width) (db : Database) (begin : Position)
    → IsOpening begin → MeetTurnSpecs width (in_style style db)
    (text_directives style db ++ turn_directives style db begin)
    (codes "hear") round_calls begin
