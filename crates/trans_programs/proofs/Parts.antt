-- The program by its parts: the directives of fixed names, and between them those of messages, of
-- lines and of groups.
use Rattle.std.proofs.Common.{◌≡◌, Bool, if◌then◌else◌, List, [], ◌∷◌, ◌++◌, codes, Option, refl, sym, subst}
use Rattle.std.specs.List.{AllByRecursion}
use Rattle.inform_tree.specs.Programs.{DirectiveTree, Routine}
use Rattle.inform_codes.specs.Routines.{Row}
use Rattle.scott_types.specs.declared.states.State.{State}
use Rattle.scott_types.specs.declared.styles.Style.{Style}
use Rattle.scott_types.specs.declared.endings.Position.{Position}
use Rattle.scott_types.specs.Database.{Database}
use Rattle.trans_specs.specs.Directives.{data_directives}
use Rattle.trans_specs.specs.Faithful.{opening_state, opening_position}
use Rattle.trans_specs.proofs.Lists.{of_both, of_first, of_rest}
use Rattle.trans_data.specs.declared.names.TheConstants.{N, HUNDREDTHS_NAME, SAY_LIGHT, LIGHT_OUT}
use Rattle.trans_data.specs.declared.scoring.TheConstants.{HUNDREDTHS, LESS_HUNDREDTHS}
use Rattle.trans_data.specs.Routines.{light_codes, out_codes, table_rows, fixed_directives}
use Rattle.trans_data.specs.Texts.{text_routine, item_texts, room_texts, message_directives}
use Rattle.trans_words.specs.Directives.{word_directives}
use Rattle.trans_actions.specs.Directives.{action_directives}
use Rattle.trans_groups.specs.Automatic.{automatic_directives}
use Rattle.trans_groups.specs.Directives.{group_directives}
use Rattle.trans_groups.specs.Search.{search_directives}
use Rattle.trans_commands.specs.Directives.{command_directives}
use Rattle.trans_turn.specs.Routines.{round_directives}
use Rattle.trans_programs.specs.Programs.{game_program}

-- the two routines that say a text by its number
abbrev pub switches : Style → Database → List DirectiveTree
switches style db = Routine (text_routine (codes "say_item") (item_texts db))
    ∷ Routine (text_routine (codes "say_room") (room_texts style db)) ∷ []

-- ---- the parts of fixed names

-- the tables, and the routines of the texts but the messages
abbrev pub before_messages : Style → Database → State → List DirectiveTree
before_messages style db s =
    data_directives db s ++ (fixed_directives style db ++ switches style db)

-- the search and the automatic step
abbrev pub before_groups : Database → List DirectiveTree
before_groups db = search_directives db ++ automatic_directives db

-- the commands and the rounds
abbrev pub after_groups : Style → Database → Position → List DirectiveTree
after_groups style db begin = command_directives style db ++ round_directives begin

abbrev pub after_lines : Style → Database → Position → List DirectiveTree
after_lines style db begin = before_groups db ++ after_groups style db begin

abbrev pub after_messages : Style → Database → Position → List DirectiveTree
after_messages style db begin = word_directives db ++ after_lines style db begin

-- all of them
abbrev pub named : Style → Database → State → Position → List DirectiveTree
named style db s begin = before_messages style db s ++ after_messages style db begin

-- the routines that are chosen, by a negative number of treasures and by two marks of the style
abbrev pub chosen_by : Bool → Bool → Bool → List Row
chosen_by less counted vanish =
    (HUNDREDTHS_NAME, N ∷ [], if less then LESS_HUNDREDTHS else HUNDREDTHS)
    ∷ (SAY_LIGHT, [], light_codes counted) ∷ (LIGHT_OUT, [], out_codes vanish) ∷ []

-- ---- all parts

module _ (style : Style) (db : Database) (from : Option State) where
  abbrev pub tables_on : List DirectiveTree
  tables_on = before_messages style db (opening_state db from)

  abbrev pub messages_on : List DirectiveTree
  messages_on = message_directives 0 db.messages

  abbrev pub lines_on : List DirectiveTree
  lines_on = action_directives style db

  abbrev pub groups_on : List DirectiveTree
  groups_on = group_directives db

  abbrev pub turns_on : List DirectiveTree
  turns_on = after_groups style db (opening_position from)

  pub parts_are : tables_on ++ (messages_on ++ (word_directives db ++ (lines_on
      ++ (before_groups db ++ (groups_on ++ turns_on))))) ≡ game_program style db from
  unfolding table_rows
  parts_are = refl

  -- what holds of each directive, by the parts
  pub record Each (P : DirectiveTree → Type 0) : Type 0 where
    pub tables : AllByRecursion P tables_on
    pub messages : AllByRecursion P messages_on
    pub words : AllByRecursion P (word_directives db)
    pub lines : AllByRecursion P lines_on
    pub search : AllByRecursion P (before_groups db)
    pub groups : AllByRecursion P groups_on
    pub turns : AllByRecursion P turns_on

  -- the program from each part on
  abbrev pub from_turns : List DirectiveTree
  from_turns = groups_on ++ turns_on

  abbrev pub from_search : List DirectiveTree
  from_search = before_groups db ++ from_turns

  abbrev pub from_lines : List DirectiveTree
  from_lines = lines_on ++ from_search

  abbrev pub from_words : List DirectiveTree
  from_words = word_directives db ++ from_lines

  abbrev pub from_messages : List DirectiveTree
  from_messages = messages_on ++ from_words

  module _ (P : DirectiveTree → Type 0) where
    pub by_parts : AllByRecursion P (game_program style db from) → Each P
    by_parts h = let all = subst (AllByRecursion P) (sym parts_are) h in
        let messages = of_rest P tables_on from_messages all in
        let words = of_rest P messages_on from_words messages in
        let lines = of_rest P (word_directives db) from_lines words in
        let search = of_rest P lines_on from_search lines in
        let groups = of_rest P (before_groups db) from_turns search in record {
          tables = of_first P tables_on from_messages all;
          messages = of_first P messages_on from_words messages;
          words = of_first P (word_directives db) from_lines words;
          lines = of_first P lines_on from_search lines;
          search = of_first P (before_groups db) from_turns search;
          groups = of_first P groups_on turns_on groups;
          turns = of_rest P groups_on turns_on groups;
        }

    pub of_named : Each P
        → AllByRecursion P (named style db (opening_state db from) (opening_position from))
    of_named h = of_both P tables_on (after_messages style db (opening_position from)) h.tables
        (of_both P (word_directives db) (after_lines style db (opening_position from)) h.words
        (of_both P (before_groups db) turns_on h.search h.turns))
