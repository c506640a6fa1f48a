-- All but the tables are routines.
use Rattle.std.proofs.Common.{◌≡◌, ℕ, ◌+◌, Bool, true, false, not, if◌then◌else◌, List, [], ◌∷◌, ◌++◌, map, Option, refl}
use Rattle.std.specs.List.{AllByRecursion}
use Rattle.inform_tree.specs.Programs.{DirectiveTree, Routine}
use Rattle.inform_codes.specs.Routines.{Row, rows_directives}
use Rattle.scott_types.specs.declared.parts.Action.{Action}
use Rattle.scott_types.specs.declared.states.State.{State}
use Rattle.scott_types.specs.declared.styles.Style.{Style}
use Rattle.scott_types.specs.Database.{Database}
use Rattle.scott_types.specs.Action.{is_zero_action}
use Rattle.scott_rules.specs.Groups.{Group, groups}
use Rattle.trans_specs.specs.Faithful.{opening_position}
use Rattle.trans_specs.specs.Lines.{group_routine}
use Rattle.trans_specs.specs.Shaped.{is_declaration}
use Rattle.trans_specs.proofs.Lists.{each_passes, of_both}
use Rattle.trans_data.specs.Routines.{table_rows, fixed_directives}
use Rattle.trans_data.specs.Texts.{message_directives, text_directives}
use Rattle.trans_words.specs.Directives.{word_directives}
use Rattle.trans_actions.specs.Names.{action_names, numbers}
use Rattle.trans_actions.specs.Helpers.{helper_rows, helper_directives}
use Rattle.trans_actions.specs.Directives.{routine_of_line, lines_from, line_directives, action_directives}
use Rattle.trans_groups.specs.Trying.{trying_directives}
use Rattle.trans_commands.specs.Directives.{command_directives}
use Rattle.trans_turn.specs.Routines.{rounds_asking, round_directives, turn_directives}
use Rattle.trans_programs.specs.Programs.{playing_routines, game_routines}
use Rattle.trans_programs.proofs.Parts.{switches}

abbrev pub IsRoutine : DirectiveTree → Type 0
IsRoutine x = not (is_declaration x) ≡ true

rows_are : (names : List (List ℕ)) (given : List ℕ) (rows : List Row)
    → AllByRecursion IsRoutine (rows_directives names given rows)
rows_are names given [] = tt
rows_are names given (row ∷ rows) = (refl, rows_are names given rows)

messages_are : (m : ℕ) (texts : List (List ℕ)) → AllByRecursion IsRoutine
    (message_directives m texts)
messages_are m [] = tt
messages_are m (text ∷ texts) = (refl, messages_are (m + 1) texts)

lines_are : (db : Database) (n : ℕ) (actions : List Action)
    → AllByRecursion IsRoutine (lines_from db n actions)
lines_are db n [] = tt
lines_are db n (a ∷ actions) = by (is_zero_action a) (lines_are db (n + 1) actions) where
  by : (zeros : Bool) → AllByRecursion IsRoutine (lines_from db (n + 1) actions)
      → AllByRecursion IsRoutine (if zeros then lines_from db (n + 1) actions
      else Routine (routine_of_line db n a) ∷ lines_from db (n + 1) actions)
  by true more = more
  by false more = (refl, more)

groups_are : (db : Database) (gs : List Group)
    → AllByRecursion IsRoutine (map (λ g. Routine (group_routine db g)) gs)
groups_are db [] = tt
groups_are db (g ∷ gs) = (refl, groups_are db gs)

texts_are : (style : Style) (db : Database) → AllByRecursion IsRoutine (text_directives style db)
unfolding table_rows
texts_are style db = of_both IsRoutine (fixed_directives style db ++ switches style db)
    (message_directives 0 db.messages)
    (each_passes (λ x. not (is_declaration x)) (fixed_directives style db ++ switches style db)
    refl)
    (messages_are 0 db.messages)

words_are : (db : Database) → AllByRecursion IsRoutine (word_directives db)
words_are db = each_passes (λ x. not (is_declaration x)) (word_directives db) refl

commands_are : (style : Style) (db : Database) → AllByRecursion IsRoutine
    (command_directives style db)
commands_are style db =
    each_passes (λ x. not (is_declaration x)) (command_directives style db) refl

rounds_are : (from : Option State)
    → AllByRecursion IsRoutine (round_directives (opening_position from))
unfolding rounds_asking
rounds_are from =
    each_passes (λ x. not (is_declaration x)) (round_directives (opening_position from)) refl

-- each directive after the tables is a routine
pub routines_only : (style : Style) (db : Database) (from : Option State)
    → AllByRecursion IsRoutine (game_routines style db from)
routines_only style db from = of_both IsRoutine (text_directives style db)
    (word_directives db ++ playing_routines style db from) (texts_are style db)
    (of_both IsRoutine (word_directives db) (playing_routines style db from) (words_are db)
    (of_both IsRoutine (action_directives style db) (turn_directives style db
    (opening_position from))
    (of_both IsRoutine (helper_directives style db) (line_directives db)
    (rows_are (action_names style) (numbers db) (helper_rows db)) (lines_are db 0 db.actions))
    (of_both IsRoutine (trying_directives db)
    (command_directives style db ++ round_directives (opening_position from))
    (refl, (refl, groups_are db (groups db)))
    (of_both IsRoutine (command_directives style db) (round_directives (opening_position from))
    (commands_are style db) (rounds_are from)))))
