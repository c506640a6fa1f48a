-- The routines that say the texts of a database.
use Rattle.std.specs.Prelude.{ℕ, ◌+◌, List, [], ◌∷◌, ◌++◌, map, codes, None}
use Rattle.inform_tree.specs.declared.values.Const.TheVariants as k
use Rattle.inform_tree.specs.Values as v
use Rattle.inform_tree.specs.Statements as s
use Rattle.inform_tree.specs.Statements.{Choice, Statements, Cases, statements}
use Rattle.inform_tree.specs.Programs.{RoutineTree, DirectiveTree, Routine}
use Rattle.inform_codes.specs.Grown.{body_of}
use Rattle.scott_types.specs.declared.styles.Style.{Style}
use Rattle.scott_types.specs.Database.{Database}
use Rattle.scott_types.specs.ItemText.{shown}
use Rattle.scott_rules.specs.Looking.{described}
use Rattle.trans_specs.specs.Names.{message_name}
use Rattle.trans_data.specs.declared.messages.TheConstants.{MESSAGE}
use Rattle.trans_data.specs.Routines.{fixed_directives}

-- ---- `[ msg_m; print "TEXT"; new_line; ];`, for the messages from number m on

abbrev pub message_directive : ℕ → List ℕ → DirectiveTree
message_directive m text = Routine (record {
  name = message_name m;
  locals = [];
  body = body_of (text ∷ []) [] MESSAGE;
})

abbrev pub message_directives : ℕ → List (List ℕ) → List DirectiveTree
message_directives m [] = []
message_directives m (text ∷ texts) = message_directive m text ∷ message_directives (m + 1) texts

-- ---- `[ NAME i; switch (i) { 0: print "TEXT"; 1: print "TEXT"; .. } ];`

-- the case of a number
abbrev pub text_case : ℕ → List ℕ → List Choice × Statements
text_case n text =
    ((k.Number n, None) ∷ [], statements (s.Print (s.Text text ∷ []) ∷ []))

-- a case for each text, from this number on
abbrev pub text_cases : ℕ → List (List ℕ) → Cases
text_cases n [] = s.NoCases
text_cases n (text ∷ texts) =
    s.MoreCases (text_case n text).0 (text_case n text).1 (text_cases (n + 1) texts)

abbrev pub text_routine : List ℕ → List (List ℕ) → RoutineTree
text_routine name texts = record {
  name = name;
  locals = codes "i" ∷ [];
  body = statements (s.Switch (v.Name (codes "i")) (text_cases 0 texts) s.NoDefault ∷ []);
}

-- what is shown of each item, and how each room is described
abbrev pub item_texts : Database → List (List ℕ)
item_texts db = map (λ item. shown item.text) db.items

abbrev pub room_texts : Style → Database → List (List ℕ)
room_texts style db = map (λ room. described style room.text) db.rooms

-- ---- all of the routines

abbrev pub spoken_directives : Style → Database → List DirectiveTree
spoken_directives style db = Routine (text_routine (codes "say_item") (item_texts db))
    ∷ Routine (text_routine (codes "say_room") (room_texts style db))
    ∷ message_directives 0 db.messages

abbrev pub text_directives : Style → Database → List DirectiveTree
text_directives style db = fixed_directives style db ++ spoken_directives style db
