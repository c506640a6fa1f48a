-- The whole program of a translated game.
use Rattle.std.specs.Prelude.{List, ◌++◌, Option}
use Rattle.inform_tree.specs.Programs.{DirectiveTree}
use Rattle.scott_types.specs.declared.states.State.{State}
use Rattle.scott_types.specs.declared.styles.Style.{Style}
use Rattle.scott_types.specs.Database.{Database}
use Rattle.trans_specs.specs.Faithful.{opening_position}
use Rattle.trans_specs.specs.Wholes.{game_directives}
use Rattle.trans_data.specs.Texts.{text_directives}
use Rattle.trans_words.specs.Directives.{word_directives}
use Rattle.trans_actions.specs.Directives.{action_directives}
use Rattle.trans_turn.specs.Routines.{turn_directives}

-- the routines of lines, and those of a turn
abbrev pub playing_routines : Style → Database → Option State → List DirectiveTree
playing_routines style db from =
    action_directives style db ++ turn_directives style db (opening_position from)

-- all routines: of the texts, the word reader, and these
abbrev pub game_routines : Style → Database → Option State → List DirectiveTree
game_routines style db from =
    text_directives style db ++ (word_directives db ++ playing_routines style db from)

-- the tables, and then the routines
abbrev pub game_program : Style → Database → Option State → List DirectiveTree
game_program style db from = game_directives db from (game_routines style db from)
