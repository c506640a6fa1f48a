-- The program of a game has its shape.
use Rattle.std.proofs.Common.{◌≡◌, ◌∙◌, arith, ℕ, ◌+◌, ◌<◌, ◌⊎◌, inl, inr, Bool, true, false, not, cond, List, [], ◌∷◌, ◌++◌, map, Option, refl, sym, ap, subst, append-nil, true≢false}
use Rattle.std.specs.List.{AllByRecursion}
use Rattle.std.proofs.lemmas.List.Elements.{filter-append}
use Rattle.inform_tree.specs.Programs.{RoutineTree, DirectiveTree, Routine}
use Rattle.inform_names.specs.Meanings.{name_of}
use Rattle.inform_signature.proofs.Elements.{one_in, in_first, in_second, in_either}
use Rattle.scott_types.specs.declared.states.State.{State}
use Rattle.scott_types.specs.declared.styles.Style.{Style}
use Rattle.scott_types.specs.Database.{Database}
use Rattle.scott_types.specs.Limits.{KeepsLimits}
use Rattle.scott_rules.specs.Groups.{Group, groups}
use Rattle.trans_specs.specs.Names.{group_name, line_name}
use Rattle.trans_specs.specs.Lines.{line_routine, group_routine}
use Rattle.trans_specs.specs.Shaped.{IsIn, IsLine, IsGroup, is_declaration, declarations, routine_calls, directive_calls, program_calls}
use Rattle.trans_specs.specs.Directives.{data_directives}
use Rattle.trans_specs.specs.Faithful.{opening_state}
use Rattle.trans_specs.proofs.Apart.{all_apart, line_opening, group_opening, no_line, no_group}
use Rattle.trans_data.specs.Routines.{routine_names, table_rows}
use Rattle.trans_data.specs.Texts.{message_directives}
use Rattle.trans_words.specs.Directives.{word_directives}
use Rattle.trans_words.specs.Laws.{ReaderCallsItself}
use Rattle.trans_actions.specs.Parts.{is_action_name, ActionsAreNamed, LinesAreThere, LinesAlone, ActionsCallNone}
use Rattle.trans_groups.specs.Trying.{trying_directives}
use Rattle.trans_groups.specs.Parts.{GroupsAreThere, GroupsAlone, GroupsAreCalledOnce, GroupsCallLines}
use Rattle.trans_turn.specs.Routines.{rounds_asking}
use Rattle.trans_programs.specs.Programs.{game_routines, game_program}
use Rattle.trans_programs.specs.Laws.{ProgramsAreShaped}
use Rattle.trans_programs.proofs.Parts.{parts_are, tables_on, messages_on, lines_on, turns_on, from_messages, from_words, from_lines, from_search}
use Rattle.trans_programs.proofs.Routines.{IsRoutine, routines_only}
use Rattle.trans_programs.proofs.Called.{calls_both, none_in_each, before_call, words_call, messages_call, after_call}

-- ---- the tables are all that is declared

none_declared : (ds : List DirectiveTree) → AllByRecursion IsRoutine ds → declarations ds ≡ []
none_declared [] h = refl
none_declared (x ∷ xs) h = by (is_declaration x) h.0 (none_declared xs h.1) where
  by : (b : Bool) → not b ≡ true → declarations xs ≡ []
      → cond b (x ∷ declarations xs) (declarations xs) ≡ []
  by true h more = cc
  by false h more = more

tables_first : (xs ys : List DirectiveTree) → declarations xs ≡ xs → declarations ys ≡ []
    → declarations (xs ++ ys) ≡ xs
tables_first xs ys h k = filter-append is_declaration xs ys ∙ rw (h, k) (append-nil xs)

-- ---- names

messages_apart : (m : ℕ) (texts : List (List ℕ))
    → (all_apart line_opening (message_directives m texts) ≡ true)
    × (all_apart group_opening (message_directives m texts) ≡ true)
messages_apart m [] = (refl, refl)
messages_apart m (text ∷ texts) = messages_apart (m + 1) texts

groups_apart : (db : Database) (gs : List Group)
    → all_apart line_opening (map (λ g. Routine (group_routine db g)) gs) ≡ true
groups_apart db [] = refl
groups_apart db (g ∷ gs) = groups_apart db gs

module _ (style : Style) (db : Database) (from : Option State) where
  tables_apart : (all_apart line_opening (tables_on style db from) ≡ true)
      × (all_apart group_opening (tables_on style db from) ≡ true)
  unfolding routine_names table_rows
  tables_apart = (refl, refl)

  words_apart : (all_apart line_opening (word_directives db) ≡ true)
      × (all_apart group_opening (word_directives db) ≡ true)
  words_apart = (refl, refl)

  turns_apart : (all_apart line_opening (turns_on style db from) ≡ true)
      × (all_apart group_opening (turns_on style db from) ≡ true)
  unfolding rounds_asking
  turns_apart = (refl, refl)

  -- ---- where a directive stands

  -- in the first of these parts in which it is
  data Place (x : DirectiveTree) : Type 0 where
    in_tables : IsIn x (tables_on style db from) → Place x
    in_messages : IsIn x (messages_on style db from) → Place x
    in_words : IsIn x (word_directives db) → Place x
    in_lines : IsIn x (lines_on style db from) → Place x
    in_trying : IsIn x (trying_directives db) → Place x
    in_turns : IsIn x (turns_on style db from) → Place x

  -- each directive of the program is in one of its parts
  place_of : (x : DirectiveTree) → IsIn x (game_program style db from) → Place x
  place_of x there = by_tables (in_either (tables_on style db from)
      (from_messages style db from) at.0 at.1) where
        at : IsIn x (tables_on style db from ++ from_messages style db from)
        at = subst (IsIn x) (sym (parts_are style db from)) there

        by_trying : IsIn x (trying_directives db) ⊎ IsIn x (turns_on style db from) → Place x
        by_trying (inl h) = in_trying h
        by_trying (inr h) = in_turns h

        by_lines : IsIn x (lines_on style db from) ⊎ IsIn x (from_search style db from) → Place x
        by_lines (inl h) = in_lines h
        by_lines (inr h) =
            by_trying (in_either (trying_directives db) (turns_on style db from) h.0 h.1)

        by_words : IsIn x (word_directives db) ⊎ IsIn x (from_lines style db from) → Place x
        by_words (inl h) = in_words h
        by_words (inr h) =
            by_lines (in_either (lines_on style db from) (from_search style db from) h.0 h.1)

        by_messages : IsIn x (messages_on style db from) ⊎ IsIn x (from_words style db from)
            → Place x
        by_messages (inl h) = in_messages h
        by_messages (inr h) =
            by_words (in_either (word_directives db) (from_lines style db from) h.0 h.1)

        by_tables : IsIn x (tables_on style db from) ⊎ IsIn x (from_messages style db from)
            → Place x
        by_tables (inl h) = in_tables h
        by_tables (inr h) =
            by_messages (in_either (messages_on style db from) (from_words style db from) h.0 h.1)

  -- and back
  line_there : (x : DirectiveTree) → IsIn x (lines_on style db from)
      → IsIn x (game_program style db from)
  line_there x there = let
      first = in_first (lines_on style db from) (from_search style db from) there.0 there.1 in
      let second = in_second (word_directives db) (from_lines style db from) first.0 first.1 in
      let third = in_second (messages_on style db from) (from_words style db from) second.0
      second.1 in
      subst (IsIn x) (parts_are style db from)
      (in_second (tables_on style db from) (from_messages style db from) third.0 third.1)

  group_there : (x : DirectiveTree) → IsIn x (trying_directives db)
      → IsIn x (game_program style db from)
  group_there x there = let
      first = in_first (trying_directives db) (turns_on style db from) there.0 there.1 in
      let lines = in_second (lines_on style db from) (from_search style db from) first.0 first.1 in
      let second = in_second (word_directives db) (from_lines style db from) lines.0 lines.1 in
      let third = in_second (messages_on style db from) (from_words style db from) second.0
      second.1 in
      subst (IsIn x) (parts_are style db from)
      (in_second (tables_on style db from) (from_messages style db from) third.0 third.1)

-- ---- the shape

module _ (words : ReaderCallsItself) (names : ActionsAreNamed) (lines : LinesAreThere)
    (lines_only : LinesAlone) (acts : ActionsCallNone) (heads : GroupsAreThere)
    (heads_only : GroupsAlone) (once : GroupsAreCalledOnce) (callers : GroupsCallLines)
    (style : Style) (db : Database) (from : Option State) (limits : KeepsLimits db) where
  abbrev program : List DirectiveTree
  program = game_program style db from

  -- wherever it stands, a routine with the name of a line is that of a line of the database
  line_alone : (k : ℕ) (r : RoutineTree) → r.name ≡ line_name k → Place style db from (Routine r)
      → IsLine db r
  line_alone k r is (in_tables h) = absurd (no_line (tables_on style db from) k r h
      (tables_apart style db from).0 is)
  line_alone k r is (in_messages h) = absurd (no_line (messages_on style db from) k r h
      (messages_apart 0 db.messages).0 is)
  line_alone k r is (in_words h) = absurd (no_line (word_directives db) k r h
      (words_apart style db from).0 is)
  line_alone k r is (in_lines h) = lines_only style db k r h is
  line_alone k r is (in_trying h) = absurd (no_line (trying_directives db) k r h
      (groups_apart db (groups db)) is)
  line_alone k r is (in_turns h) = absurd (no_line (turns_on style db from) k r h
      (turns_apart style db from).0 is)

  -- wherever it stands, a routine with the name of a group is that of a group of the database
  group_alone : (k : ℕ) (r : RoutineTree) → r.name ≡ group_name k
      → Place style db from (Routine r) → IsGroup db r
  group_alone k r is (in_tables h) = absurd (no_group (tables_on style db from) k r h
      (tables_apart style db from).1 is)
  group_alone k r is (in_messages h) = absurd (no_group (messages_on style db from) k r h
      (messages_apart 0 db.messages).1 is)
  group_alone k r is (in_words h) = absurd (no_group (word_directives db) k r h
      (words_apart style db from).1 is)
  group_alone k r is (in_lines h) = absurd (true≢false (sym (one_in
      (λ x. is_action_name (name_of x) ≡ true) (lines_on style db from) h.0 (names style db) h.1)
      ∙ ap is_action_name is))
  group_alone k r is (in_trying h) = heads_only db k r h is
  group_alone k r is (in_turns h) = absurd (no_group (turns_on style db from) k r h
      (turns_apart style db from).1 is)

  -- a routine of a part that calls no line
  calls_none : (k : ℕ) (r : RoutineTree) (ds : List DirectiveTree)
      → program_calls (line_name k) ds ≡ 0 → IsIn (Routine r) ds
      → 0 < routine_calls (line_name k) r → ⊥
  calls_none k r ds none there calls = let own : routine_calls (line_name k) r ≡ 0 =
      one_in (λ x. directive_calls (line_name k) x ≡ 0) ds there.0
      (none_in_each (line_name k) ds none) there.1 in
      omega (arith, own, calls)

  -- wherever it stands, a routine that calls a line is that of a group of the database
  caller : (k : ℕ) (r : RoutineTree) → 0 < routine_calls (line_name k) r
      → Place style db from (Routine r) → IsGroup db r
  caller k r calls (in_tables h) = absurd (calls_none k r (tables_on style db from)
      (before_call true k style db (opening_state db from)) h calls)
  caller k r calls (in_messages h) = absurd (calls_none k r (messages_on style db from)
      (messages_call (line_name k) 0 db.messages) h calls)
  caller k r calls (in_words h) = absurd (calls_none k r (word_directives db)
      (words_call words true k db) h calls)
  caller k r calls (in_lines h) = absurd (calls_none k r (lines_on style db from)
      (acts style db k limits).0 h calls)
  caller k r calls (in_trying h) = callers db k r h calls
  caller k r calls (in_turns h) = absurd (calls_none k r (turns_on style db from)
      (after_call true k style db from) h calls)

  -- each group is called at one place of the program
  called : (g : Group) → IsIn g (groups db) → program_calls (group_name g.head) program ≡ 1
  called g there = subst (λ ds. program_calls name ds ≡ 1) (parts_are style db from) (omega (
    arith,
    calls_both name (tables_on style db from) (from_messages style db from),
    calls_both name (messages_on style db from) (from_words style db from),
    calls_both name (word_directives db) (from_lines style db from),
    calls_both name (lines_on style db from) (from_search style db from),
    calls_both name (trying_directives db) (turns_on style db from),
    before_call false g.head style db (opening_state db from),
    messages_call name 0 db.messages,
    words_call words false g.head db,
    (acts style db g.head limits).1,
    once db limits g there,
    after_call false g.head style db from,
  )) where
    name : List ℕ
    name = group_name g.head

-- the program of a game has its shape, for a database that keeps its limits
pub programs_are_shaped : ReaderCallsItself → ActionsAreNamed → LinesAreThere → LinesAlone
    → ActionsCallNone → GroupsAreThere → GroupsAlone → GroupsAreCalledOnce → GroupsCallLines
    → ProgramsAreShaped
programs_are_shaped words names lines lines_only acts heads heads_only once callers style db from
    limits = record {
      declared = tables_first (data_directives db (opening_state db from))
          (game_routines style db from) refl (none_declared (game_routines style db from)
          (routines_only style db from));
      lines = λ k has. line_there style db from (Routine (line_routine db k))
          (lines style db k has);
      groups_there = λ g there. group_there style db from (Routine (group_routine db g))
          (heads db g there);
      lines_only = λ k r there is. line_alone words names lines lines_only acts heads heads_only
          once callers style db from limits k r is (place_of style db from (Routine r) there);
      groups_only = λ k r there is. group_alone words names lines lines_only acts heads heads_only
          once callers style db from limits k r is (place_of style db from (Routine r) there);
      called_once = called words names lines lines_only acts heads heads_only once callers style db
          from limits;
      by_groups = λ k has r there calls. caller words names lines lines_only acts heads heads_only
          once callers style db from limits k r calls (place_of style db from (Routine r) there);
    }
