-- The law of translated games.
use Rattle.std.specs.Prelude.{Option}
use Rattle.inform_tree.specs.declared.widths.Width.{Width}
use Rattle.scott_types.specs.declared.states.State.{State}
use Rattle.scott_types.specs.declared.styles.Style.{Style}
use Rattle.scott_types.specs.Database.{Database}
use Rattle.scott_types.specs.State.{Fits}
use Rattle.trans_specs.specs.Meeting.{Translates}
use Rattle.trans_specs.specs.Faithful.{opening_state, FaithfulProgram}
use Rattle.trans_programs.specs.Programs.{game_program}

-- The program of a game is faithful to it: it is accepted, has the shape of the game, and on all
-- typed lines and all draws, with steps that are enough, its run is the play.
abbrev pub ProgramsAreFaithful : Type 0
ProgramsAreFaithful = (style : Style) (width : Width) (db : Database) (from : Option State)
    → Translates width db → Fits db (opening_state db from)
    → FaithfulProgram style width db from (game_program style db from)
