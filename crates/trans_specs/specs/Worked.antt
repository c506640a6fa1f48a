-- Worked tables, views, lines and numbers of small games.
use Rattle.std.specs.Prelude.{◌≡◌, ℕ, pos, negsuc, true, false, List, [], ◌∷◌, ◌++◌, map, replicate, codes, Some, None}
use Rattle.inform_tree.specs.declared.widths.Width.TheVariants.{W16, W32}
use Rattle.inform_tree.specs.declared.conditions.Relation.TheVariants.{Eq}
use Rattle.inform_tree.specs.Values as v
use Rattle.inform_tree.specs.Conditions as c
use Rattle.inform_tree.specs.Statements as s
use Rattle.inform_tree.specs.Statements.{Statement, statements}
use Rattle.inform_tree.specs.Programs as t
use Rattle.inform_tree.specs.Programs.{RoutineTree, DirectiveTree}
use Rattle.inform_logic.specs.Holding.{opening_stage}
use Rattle.scott_types.specs.declared.parts.Word.{Word}
use Rattle.scott_types.specs.declared.states.State.{State}
use Rattle.scott_types.specs.declared.commands.Column.TheVariants.{Verbs, Nouns}
use Rattle.scott_types.specs.Database.{Database}
use Rattle.scott_types.specs.State.{start}
use Rattle.scott_rules.specs.Groups.{groups}
use Rattle.scott_rules.specs.Games.{word, item, line_with, with_lines, with_items, hill, full_hands, chance, last_pin, one_treasure, lamp_for, not_carried}
use Rattle.trans_specs.specs.declared.places.Place.TheVariants.{Light, Condition, Opcode}
use Rattle.trans_specs.specs.Tables.{start_places, exits, word_letters, word_bases, noun_classes, item_classes, item_nouns, items_with_words, treasures}
use Rattle.trans_specs.specs.Directives.{data_directives}
use Rattle.trans_specs.specs.Views.{Shows}
use Rattle.trans_specs.specs.Steps.{share, enough}
use Rattle.trans_specs.specs.Names.{line_number}
use Rattle.trans_specs.specs.Wide.{wide_at}
use Rattle.trans_specs.specs.Lines.{call_statement, line_routine, group_routine}
use Rattle.trans_specs.specs.Shaped.{program_calls, Shaped}

-- ---- tables

-- of the hall and the hill: words of three letters, each direction its own base entry and class
pub record HillTables : Type 0 where
  pub starts : start_places hill ≡ 1 ∷ 0 ∷ []
  pub ways :
      exits hill ≡ replicate 6 0 ++ 2 ∷ replicate 5 0 ++ 0 ∷ 1 ∷ replicate 4 0 ++ 0 ∷ []
  pub verbs : word_letters hill Verbs
      ≡ codes "autgo" ++ 0 ∷ codes "walloo" ++ replicate 9 0 ++ 0 ∷ []
  pub nouns :
      word_letters hill Nouns ≡ codes "anynorsoueaswesup" ++ 0 ∷ codes "dow" ++ 0 ∷ []
  pub verb_bases : word_bases hill Verbs ≡ 0 ∷ 1 ∷ 1 ∷ 3 ∷ 4 ∷ 5 ∷ 6 ∷ 0 ∷ []
  pub classes : noun_classes hill ≡ 0 ∷ 1 ∷ 2 ∷ 3 ∷ 4 ∷ 5 ∷ 6 ∷ 0 ∷ []

-- items with words, and a treasure
pub record ItemTables : Type 0 where
  pub classes : item_classes last_pin ≡ 10 ∷ 11 ∷ 0 ∷ []
  pub nouns : item_nouns last_pin ≡ 10 ∷ 11 ∷ 0 ∷ []
  pub with_words : items_with_words last_pin ≡ 1 ∷ 1 ∷ 0 ∷ []
  pub no_words : items_with_words hill ≡ 0 ∷ 0 ∷ []
  pub gold : treasures one_treasure ≡ 1 ∷ 0 ∷ []
  pub no_gold : treasures last_pin ≡ 0 ∷ 0 ∷ 0 ∷ []

-- a synonym without a base entry, one of a base entry, a noun with the letters of an earlier one,
-- an empty base entry with a synonym, and a noun that can't be typed
abbrev pub odd_words : List Word
odd_words = word (codes "AUT") (codes "ANY") ∷ word [] (codes "*ROCK") ∷ word [] (codes "LAMP")
    ∷ word [] (codes "*LANTERN") ∷ word [] (codes "LAMPS") ∷ word [] [] ∷ word [] (codes "*TORCH")
    ∷ word [] (codes "A B") ∷ []

abbrev pub odd_game : Database
odd_game = with_items (item (codes "Lantern/LANTERN/") 1 ∷ item (codes "Lamps/LAMPS/") 1 ∷ [])
    (record hill { words = odd_words })

pub record OddTables : Type 0 where
  pub nouns : word_letters odd_game Nouns
      ≡ codes "anyroclamlanlam" ++ replicate 3 0 ++ codes "tor" ++ replicate 3 0 ++ 0 ∷ []
  pub bases : word_bases odd_game Nouns ≡ 0 ∷ 0 ∷ 2 ∷ 2 ∷ 4 ∷ 5 ∷ 5 ∷ 7 ∷ 0 ∷ []
  pub classes : noun_classes odd_game ≡ 0 ∷ 0 ∷ 2 ∷ 0 ∷ 2 ∷ 0 ∷ 0 ∷ 7 ∷ 0 ∷ []
  pub item_class : item_classes odd_game ≡ 0 ∷ 2 ∷ 0 ∷ []
  pub item_noun : item_nouns odd_game ≡ 2 ∷ 2 ∷ 0 ∷ []

-- ---- views

-- a game that opens shows its first state
abbrev pub HillOpens : Type 0
HillOpens = Shows (start hill) (opening_stage W16 (data_directives hill (start hill)) [] [])

-- and one that goes on shows the state from which it does
abbrev pub later : State
later = record (start hill) {
  room = 2;
  saved = 1;
  counter = negsuc 0;
  counters = pos 7 ∷ negsuc 0 ∷ replicate 14 (pos 0);
  flags = false ∷ true ∷ replicate 30 false;
  redraw = false;
}

abbrev pub LaterOpens : Type 0
LaterOpens = Shows later (opening_stage W32 (data_directives hill later) [] [])

-- ---- lines and groups

abbrev call_of : List ℕ → List ℕ → v.Expression
call_of name xs = v.Call name (v.arguments (map v.Number xs))

abbrev returns : v.Expression → Statement
returns x = s.Return (Some x)

abbrev routine : List ℕ → List (List ℕ) → List Statement → RoutineTree
routine name locals body = record { name = name; locals = locals; body = statements body }

-- `[ line_0; if (op_52(0)) { op_53(1); } else { op_53(0); } return 1; ];`
abbrev pub FullHandsLine : Type 0
FullHandsLine = line_routine full_hands 0 ≡ routine (codes "line_0") []
    (s.If (c.Nonzero (call_of (codes "op_52") (0 ∷ [])))
    (statements (call_statement (codes "op_53") (1 ∷ []) ∷ []))
    (statements (call_statement (codes "op_53") (0 ∷ []) ∷ [])) ∷ returns (v.Number 1) ∷ [])

-- `[ line_0; if (~~(cond_1(1))) rfalse; op_63(); return 1; ];`
abbrev pub NotCarriedLine : Type 0
NotCarriedLine = line_routine not_carried 0 ≡ routine (codes "line_0") []
    (s.If (c.Not (c.Nonzero (call_of (codes "cond_1") (1 ∷ [])))) (statements (s.Rfalse ∷ []))
    s.NoStatements ∷ call_statement (codes "op_63") [] ∷ returns (v.Number 1) ∷ [])

-- `[ line_2; msg_2(); return 2; ];`
abbrev pub ChanceLine : Type 0
ChanceLine = line_routine chance 2
    ≡ routine (codes "line_2") [] (call_statement (codes "msg_2") [] ∷ returns (v.Number 2) ∷ [])

-- `[ group_1; return line_1(); ];`,
-- `[ group_2 r; r = line_2(); if (r == 2) { line_3(); } return r; ];` and
-- `[ group_4; return line_4(); ];`
abbrev pub ChanceGroups : Type 0
ChanceGroups = map (group_routine chance) (groups chance)
    ≡ routine (codes "group_1") [] (returns (call_of (codes "line_1") []) ∷ [])
    ∷ routine (codes "group_2") (codes "r" ∷ [])
    (s.Assign (s.Set (codes "r") (call_of (codes "line_2") []))
    ∷ s.If (c.Compare Eq (v.Name (codes "r")) (v.Number 2))
    (statements (call_statement (codes "line_3") [] ∷ [])) s.NoStatements
    ∷ returns (v.Name (codes "r")) ∷ [])
    ∷ routine (codes "group_4") [] (returns (call_of (codes "line_4") []) ∷ []) ∷ []

-- a head that goes on, whose tail is all zeros: `[ group_0; return line_0(); ];`
abbrev pub zero_tail : Database
zero_tail = with_lines (line_with 450 0 0 10950 0 ∷ line_with 0 0 0 0 0 ∷ []) hill

abbrev pub EmptyTail : Type 0
EmptyTail = map (group_routine zero_tail) (groups zero_tail)
    ≡ routine (codes "group_0") [] (returns (call_of (codes "line_0") []) ∷ []) ∷ []

-- a routine that is called as a value and twice as a statement
abbrev pub CallsCounted : Type 0
CallsCounted = program_calls (codes "f") (t.Routine (routine (codes "main") []
    (call_statement (codes "f") [] ∷ s.If (c.Nonzero (call_of (codes "f") []))
    (statements (call_statement (codes "f") (1 ∷ []) ∷ call_statement (codes "g") [] ∷ []))
    s.NoStatements ∷ [])) ∷ []) ≡ 3

-- ---- numbers

pub record NamesRead : Type 0 where
  pub of_line : line_number (codes "line_12") ≡ Some 12
  pub with_zero : line_number (codes "line_012") ≡ None
  pub no_digits : line_number (codes "line_") ≡ None
  pub other : line_number (codes "group_12") ≡ None

pub record NumbersWide : Type 0 where
  pub light : wide_at W16 (lamp_for 40000) ≡ Some (Light, pos 40000)
  pub light_at_32 : wide_at W32 (lamp_for 40000) ≡ None
  pub light_fits : wide_at W16 (lamp_for 32767) ≡ None
  pub argument : wide_at W16 (with_lines (line_with 450 0 655360 4915200 0 ∷ []) hill)
      ≡ Some (Condition 0 2, pos 32768)
  pub opcode : wide_at W16 (with_lines (line_with 450 0 0 0 4915200 ∷ []) hill)
      ≡ Some (Opcode 0 3, pos 32768)

pub record StepsCounted : Type 0 where
  pub of_hill : share hill ≡ 226
  pub of_lines : enough hill 3 ≡ 3616000

-- ---- a shape

-- the hall and the hill have no line that does anything: the tables and a `main` are such a game
abbrev pub hill_directives : List DirectiveTree
hill_directives = data_directives hill (start hill)
    ++ t.Routine (routine (codes "main") [] []) ∷ []

abbrev pub HillIsShaped : Type 0
HillIsShaped = Shaped hill (start hill) hill_directives

-- and with a `line_0` besides they are not
abbrev pub dead_line : RoutineTree
dead_line = routine (codes "line_0") [] (s.Print (s.Text (codes "a") ∷ []) ∷ [])

abbrev pub DeadLineIsRefused : Type 0
DeadLineIsRefused = ¬ (Shaped hill (start hill)
    (data_directives hill (start hill) ++ t.Routine dead_line ∷ []))
