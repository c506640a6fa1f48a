-- The laws of the program of a translated game: it has a text, is accepted, and has the shape of
-- the game.
use Rattle.std.specs.Prelude.{◌≡◌, true, Option, None}
use Rattle.inform_tree.specs.declared.widths.Width.{Width}
use Rattle.inform_tree.specs.Formed.{is_well_formed}
use Rattle.inform_names.specs.Acceptance.{name_fault}
use Rattle.inform_logic.specs.Holding.{Distinct}
use Rattle.scott_types.specs.declared.states.State.{State}
use Rattle.scott_types.specs.declared.styles.Style.{Style}
use Rattle.scott_types.specs.Database.{Database}
use Rattle.scott_types.specs.Limits.{KeepsLimits}
use Rattle.scott_types.specs.State.{Fits}
use Rattle.trans_specs.specs.Meeting.{Translates}
use Rattle.trans_specs.specs.Faithful.{opening_state}
use Rattle.trans_specs.specs.Shaped.{Shaped}
use Rattle.trans_programs.specs.Programs.{game_program}

-- no two of its directives have one name
abbrev pub ProgramsAreDistinct : Type 0
ProgramsAreDistinct = (style : Style) (db : Database) (from : Option State) → KeepsLimits db
    → Distinct (game_program style db from)

-- it has a text
abbrev pub ProgramsAreFormed : Type 0
ProgramsAreFormed = (style : Style) (width : Width) (db : Database) (from : Option State)
    → Translates width db → Fits db (opening_state db from)
    → is_well_formed (game_program style db from) ≡ true

-- it is accepted at the width
abbrev pub ProgramsAreAccepted : Type 0
ProgramsAreAccepted = (style : Style) (width : Width) (db : Database) (from : Option State)
    → Translates width db → Fits db (opening_state db from)
    → name_fault width (game_program style db from) ≡ None

-- it has the shape of the game
abbrev pub ProgramsAreShaped : Type 0
ProgramsAreShaped = (style : Style) (db : Database) (from : Option State) → KeepsLimits db
    → Shaped db (opening_state db from) (game_program style db from)
