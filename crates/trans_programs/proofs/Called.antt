-- The places of the program at which lines and groups are called.
use Rattle.std.proofs.Common.{◌≡◌, arith, ℕ, ◌+◌, pos, Bool, true, false, if◌then◌else◌, List, [], ◌∷◌, ◌++◌, codes, Option, Some, None, refl}
use Rattle.std.specs.Prelude.{int_lt}
use Rattle.std.specs.List.{AllByRecursion}
use Rattle.inform_tree.specs.Programs.{DirectiveTree}
use Rattle.inform_names.specs.declared.enclosures.Enclosure.{Enclosure}
use Rattle.inform_names.specs.Demands.{cases_demands, switch_in, no_loop}
use Rattle.inform_codes.specs.Grown.{body_of}
use Rattle.inform_codes.specs.Routines.{row_routine, rows_directives}
use Rattle.scott_types.specs.declared.states.State.{State}
use Rattle.scott_types.specs.declared.styles.Style.{Style}
use Rattle.scott_types.specs.Database.{Database}
use Rattle.trans_specs.specs.Names.{group_name, line_name}
use Rattle.trans_specs.specs.Directives.{data_directives}
use Rattle.trans_specs.specs.Faithful.{opening_position}
use Rattle.trans_specs.specs.Shaped.{demands_calls, routine_calls, directive_calls, program_calls}
use Rattle.trans_data.specs.declared.names.TheConstants.{N, HUNDREDTHS_NAME, SAY_LIGHT, LIGHT_OUT}
use Rattle.trans_data.specs.declared.scoring.TheConstants.{HUNDREDTHS, LESS_HUNDREDTHS}
use Rattle.trans_data.specs.Numbers.{numbers}
use Rattle.trans_data.specs.Routines.{routine_names, light_codes, out_codes, table_rows, chosen_rows, fixed_directives}
use Rattle.trans_data.specs.Texts.{message_directives, text_cases, text_routine, item_texts, room_texts}
use Rattle.trans_words.specs.Directives.{word_directives}
use Rattle.trans_words.specs.Laws.{ReaderCallsItself}
use Rattle.trans_commands.specs.Directives.{command_directives}
use Rattle.trans_turn.specs.Routines.{rounds_asking, round_directives}
use Rattle.trans_programs.proofs.Parts.{switches, before_messages, after_groups, chosen_by}

-- the name of a line, and that of a group
abbrev pub name_by : Bool → ℕ → List ℕ
name_by true k = line_name k
name_by false k = group_name k

-- ---- lists of directives

module _ (name : List ℕ) where
  pub calls_both : (xs ys : List DirectiveTree)
      → program_calls name (xs ++ ys) ≡ program_calls name xs + program_calls name ys
  calls_both [] ys = omega arith
  calls_both (x ∷ xs) ys = omega (arith, calls_both xs ys)

  -- where there is none in all, there is none in each
  pub none_in_each : (ds : List DirectiveTree) → program_calls name ds ≡ 0
      → AllByRecursion (λ x. directive_calls name x ≡ 0) ds
  none_in_each [] h = tt
  none_in_each (x ∷ xs) h = (omega (arith, h), none_in_each xs (omega (arith, h)))

  none_in_both : (xs ys : List DirectiveTree) → program_calls name xs ≡ 0
      → program_calls name ys ≡ 0 → program_calls name (xs ++ ys) ≡ 0
  none_in_both xs ys h k = omega (arith, h, k, calls_both xs ys)

  -- ---- texts

  cases_call : (e : Enclosure) (n : ℕ) (texts : List (List ℕ))
      → demands_calls name (cases_demands e (text_cases n texts)) ≡ 0
  cases_call e n [] = refl
  cases_call e n (text ∷ texts) = omega (arith, cases_call e (n + 1) texts)

  switch_calls : (own : List ℕ) (texts : List (List ℕ))
      → routine_calls name (text_routine own texts) ≡ 0
  switch_calls own texts = omega (arith, cases_call (switch_in no_loop) 0 texts)

  switches_call : (style : Style) (db : Database) → program_calls name (switches style db) ≡ 0
  switches_call style db = omega (
    arith,
    switch_calls (codes "say_item") (item_texts db),
    switch_calls (codes "say_room") (room_texts style db),
  )

  pub messages_call : (m : ℕ) (texts : List (List ℕ))
      → program_calls name (message_directives m texts) ≡ 0
  unfolding body_of
  messages_call m [] = refl
  messages_call m (text ∷ texts) = omega (arith, messages_call (m + 1) texts)

-- ---- routines of fixed names

table_calls : (line : Bool) (k : ℕ) (style : Style) (given : List ℕ) → program_calls
    (name_by line k)
    (rows_directives (routine_names style) given table_rows) ≡ 0
unfolding body_of routine_names table_rows
table_calls true k style given = refl
table_calls false k style given = refl

-- the routines that are chosen by the treasures and the style call no line and no group
chosen_calls : (line : Bool) (k : ℕ) (style : Style) (given : List ℕ) (less counted vanish : Bool)
    → program_calls (name_by line k)
    (rows_directives (routine_names style) given (chosen_by less counted vanish)) ≡ 0
unfolding body_of routine_names
chosen_calls line k style given less counted vanish =
    omega (arith, hundredths line less, light line counted, out line vanish) where
      hundredths : (line less : Bool) → routine_calls (name_by line k)
          (row_routine (routine_names style) given
          (HUNDREDTHS_NAME, N ∷ [], if less then LESS_HUNDREDTHS else HUNDREDTHS)) ≡ 0
      hundredths true true = refl
      hundredths true false = refl
      hundredths false true = refl
      hundredths false false = refl

      light : (line counted : Bool) → routine_calls (name_by line k)
          (row_routine (routine_names style) given (SAY_LIGHT, [], light_codes counted)) ≡ 0
      light true true = refl
      light true false = refl
      light false true = refl
      light false false = refl

      out : (line vanish : Bool) → routine_calls (name_by line k)
          (row_routine (routine_names style) given (LIGHT_OUT, [], out_codes vanish)) ≡ 0
      out true true = refl
      out true false = refl
      out false true = refl
      out false false = refl

commands_call : (line : Bool) (k : ℕ) (style : Style) (db : Database)
    → program_calls (name_by line k) (command_directives style db) ≡ 0
unfolding body_of
commands_call true k style db = refl
commands_call false k style db = refl

rounds_call : (line : Bool) (k : ℕ) (from : Option State)
    → program_calls (name_by line k) (round_directives (opening_position from)) ≡ 0
unfolding body_of rounds_asking
rounds_call true k None = refl
rounds_call true k (Some s) = refl
rounds_call false k None = refl
rounds_call false k (Some s) = refl

tables_call : (line : Bool) (k : ℕ) (db : Database) (s : State)
    → program_calls (name_by line k) (data_directives db s) ≡ 0
tables_call line k db s = refl

-- ---- the parts

pub before_call : (line : Bool) (k : ℕ) (style : Style) (db : Database) (s : State)
    → program_calls (name_by line k) (before_messages style db s) ≡ 0
before_call line k style db s = let name = name_by line k in
    none_in_both name (data_directives db s) (fixed_directives style db ++ switches style db)
    (tables_call line k db s) (none_in_both name (fixed_directives style db) (switches style db)
    (none_in_both name (rows_directives (routine_names style) (numbers db) table_rows)
    (rows_directives (routine_names style) (numbers db) (chosen_rows style db))
    (table_calls line k style (numbers db)) (chosen_calls line k style (numbers db)
    (int_lt db.header.treasures (pos 0)) style.counted style.vanish))
    (switches_call name style db))

pub words_call : ReaderCallsItself → (line : Bool) (k : ℕ) (db : Database)
    → program_calls (name_by line k) (word_directives db) ≡ 0
words_call law line k db = by line where
  by : (line : Bool) → program_calls (name_by line k) (word_directives db) ≡ 0
  by true = law db (line_name k)
      (refl, (refl, (refl, (refl, (refl, (refl, (refl, (refl, tt))))))))
  by false = law db (group_name k)
      (refl, (refl, (refl, (refl, (refl, (refl, (refl, (refl, tt))))))))

pub after_call : (line : Bool) (k : ℕ) (style : Style) (db : Database) (from : Option State)
    → program_calls (name_by line k) (after_groups style db (opening_position from)) ≡ 0
after_call line k style db from = none_in_both (name_by line k) (command_directives style db)
    (round_directives (opening_position from)) (commands_call line k style db)
    (rounds_call line k from)
