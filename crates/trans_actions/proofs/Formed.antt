-- The routines of lines have a text.
use Rattle.std.proofs.Common.{◌≡◌, ◌∙◌, arith, ℕ, zero, suc, ℤ, pos, negsuc, ◌+◌, ◌*◌, ◌<◌, ◌≤◌, ◌^◌, ◌/◌, ◌%◌, ◌==◌, nat_lt, Bool, true, false, ◌&&◌, if◌then◌else◌, cond, List, [], ◌∷◌, ◌++◌, map, filter, drop, length, refl, Some}
use Rattle.std.specs.Prelude.{flat_map}
use Rattle.std.proofs.lemmas.Int.{ints}
use Rattle.std.specs.List.{list_all, list_any}
use Rattle.std.proofs.lemmas.Bool.{and_parts}
use Rattle.std.proofs.lemmas.List.Folds.{list_all-append}
use Rattle.inform_tree.specs.Values as v
use Rattle.inform_tree.specs.Conditions as c
use Rattle.inform_tree.specs.Programs as d
use Rattle.inform_tree.specs.Programs.{DirectiveTree}
use Rattle.inform_tree.specs.Statements as s
use Rattle.inform_tree.specs.Statements.{Statement, statements}
use Rattle.inform_tree.specs.Words.{is_name, is_number}
use Rattle.inform_tree.specs.Depths.{arguments_depth}
use Rattle.inform_tree.specs.Formed.{are_formed_arguments, is_formed_directive, is_well_formed}
use Rattle.inform_codes.specs.Grown.{body_of}
use Rattle.inform_codes.specs.Routines.{Row, row_routine, rows_directives}
use Rattle.scott_types.specs.declared.opcodes.Opcode.{Opcode}
use Rattle.scott_types.specs.declared.opcodes.Opcode.TheVariants.{Nothing, Say, Get, Items, Rooms, Flags, Counters, Talk, Refill, Score, Die, Finish, Screen, Picture, More}
use Rattle.scott_types.specs.declared.parts.Action.{Action}
use Rattle.scott_types.specs.declared.parts.Header.{Header}
use Rattle.scott_types.specs.declared.styles.Style.{Style}
use Rattle.scott_types.specs.Database.{Database}
use Rattle.scott_types.specs.Limits.{KeepsLimits, is_number as is_whole, are_header_numbers, is_natural, is_action}
use Rattle.scott_types.specs.Phrase.{text_of, second_person}
use Rattle.scott_types.specs.Action.{argument_of, condition_code, parameters, opcode_numbers, is_zero_action}
use Rattle.scott_types.specs.Opcode.{opcode_of, uses as uses_of}
use Rattle.scott_rules.specs.Actions.{goes_on_after}
use Rattle.scott_rules.specs.Opcodes.{last_room}
use Rattle.trans_actions.specs.declared.table.Kind.TheVariants as kind
use Rattle.trans_specs.specs.Names.{message_name, opcode_name}
use Rattle.trans_specs.specs.Lines.{number_arguments, next_parameters, call_value, call_statement, get_number, condition_test, is_test, opcode_call, message_call, get_statements, opcode_statements, all_statements, line_value, line_body}
use Rattle.trans_specs.proofs.Lengths.{few}
use Rattle.trans_actions.specs.Names.{action_names, numbers, light_number}
use Rattle.trans_actions.specs.Helpers.{Helper, conditions, opcodes, refill, uses, used_rows, helper_directives}
use Rattle.trans_actions.specs.Directives.{routine_of_line, lines_from, line_directives}
use Rattle.trans_actions.specs.Laws.{ActionsFormed}
use Rattle.trans_actions.proofs.FineLists.{both, message_named, condition_named, opcode_named, line_named, Fine, AllFine, joined, raised, all_formed, all_shallow}

-- ---- numbers

natural_small : (n : ℕ) → is_natural n ≡ true → n < 2 ^ 32
natural_small n h = grind (arith, h)

argument_number : (packed : ℕ) → is_natural packed ≡ true → is_number (argument_of packed) ≡ true
argument_number packed h = grind (arith, h)

-- ---- calls

next_formed : (n : ℕ) (params : List ℕ) → list_all is_number params ≡ true
    → are_formed_arguments (number_arguments (next_parameters n params)) ≡ true
next_formed zero params h = refl
next_formed (suc n) [] h = next_formed n [] refl
next_formed (suc n) (p ∷ params) h =
    both (is_number p) (are_formed_arguments (number_arguments (next_parameters n params)))
    (and_parts (is_number p) (list_all is_number params) h).0
    (next_formed n params (and_parts (is_number p) (list_all is_number params) h).1)

numbers_shallow : (xs : List ℕ) → arguments_depth (number_arguments xs) ≤ 1
numbers_shallow [] = omega arith
numbers_shallow (x ∷ xs) = omega (arith, numbers_shallow xs)

call_fine : (name : List ℕ) (xs : List ℕ) → is_name name ≡ true
    → are_formed_arguments (number_arguments xs) ≡ true → Fine 2 (call_statement name xs)
call_fine name xs named formed = record {
  formed = both (is_name name) (are_formed_arguments (number_arguments xs)) named formed;
  shallow = omega (arith, numbers_shallow xs);
}

-- ---- tests

test_fine : (packed : ℕ) → is_natural packed ≡ true → Fine 5 (condition_test packed)
test_fine packed h = record {
  formed = rw (
    condition_named (condition_code packed) (omega arith),
    argument_number packed h,
  ) refl;
  shallow = omega arith;
}

-- the tests of a line's conditions are formed, and at most 5 deep
tests_fine : (conds : List ℕ) → list_all is_natural conds ≡ true
    → AllFine 5 (map condition_test (filter is_test conds))
tests_fine [] h = tt
tests_fine (packed ∷ conds) h =
    from (is_test packed) (and_parts (is_natural packed) (list_all is_natural conds) h).0
    (tests_fine conds (and_parts (is_natural packed) (list_all is_natural conds) h).1) where
      from : (b : Bool) → is_natural packed ≡ true
          → AllFine 5 (map condition_test (filter is_test conds))
          → AllFine 5 (map condition_test (cond b (packed ∷ filter is_test conds)
          (filter is_test conds)))
      from true natural rest = (test_fine packed natural, rest)
      from false natural rest = rest

-- ---- opcodes

dropped : (n : ℕ) (params : List ℕ) → list_all is_number params ≡ true
    → list_all is_number (drop n params) ≡ true
dropped zero params h = h
dropped (suc n) [] h = refl
dropped (suc n) (p ∷ params) h =
    dropped n params (and_parts (is_number p) (list_all is_number params) h).1

-- the call of a message, which is left out where there is none, is formed and at most 2 deep
message_fine : (db : Database) (m : ℕ) → KeepsLimits db → AllFine 2 (message_call db m)
message_fine db m limits = from (nat_lt m (length db.messages)) refl where
  -- it is so whether there is such a message or not
  from : (b : Bool) → nat_lt m (length db.messages) ≡ b
      → AllFine 2 (if b then call_statement (message_name m) [] ∷ [] else [])
  from true is = (
    call_fine (message_name m) [] (message_named m (grind (
      arith,
      is,
      few 1000 db.messages limits.sizes.messages,
    ))) refl,
    tt,
  )
  from false is = tt

-- the statements of a get are formed, with a depth greater than that of the statements after it
got_fine : (most more : ℕ) (params : List ℕ) (taken left : List Statement) → 4 ≤ most → most < more
    → list_all is_number params ≡ true → AllFine most taken → AllFine most left
    → AllFine more (get_statements params taken left)
got_fine most more params taken left enough up small = from taken left where
  -- the test whether an item was got is formed, with statements for both cases
  parted : (taken left : List Statement) → AllFine most taken → AllFine most left
      → Fine more (s.If (c.Nonzero (call_value (opcode_name get_number)
      (next_parameters 1 params))) (statements taken) (statements left))
  parted taken left h k = record {
    formed = both _ _ (both _ _ (opcode_named 52 (omega arith)) (next_formed 1 params small))
        (both _ _ (all_formed most taken h) (all_formed most left k));
    shallow = omega (
      arith,
      enough,
      up,
      numbers_shallow (next_parameters 1 params),
      all_shallow most taken h,
      all_shallow most left k,
    );
  }

  from : (taken left : List Statement) → AllFine most taken → AllFine most left
      → AllFine more (get_statements params taken left)
  from [] [] h k = raised 2 more (opcode_call 52 params ∷ []) (omega (arith, enough, up)) (
    call_fine (opcode_name 52) (next_parameters (uses_of (opcode_of 52)) params)
        (opcode_named 52 (omega arith)) (next_formed (uses_of (opcode_of 52)) params small),
    tt,
  )
  from [] (x ∷ left) h k = (parted [] (x ∷ left) h k, tt)
  from (x ∷ taken) [] h k = (parted (x ∷ taken) [] h k, tt)
  from (x ∷ taken) (y ∷ left) h k = (parted (x ∷ taken) (y ∷ left) h k, tt)

module _ (db : Database) (limits : KeepsLimits db) where
  -- the statements of an opcode, where those of the others are fine
  module _ (n : ℕ) (ns : List ℕ) (natural : is_natural n ≡ true)
      (others : (params : List ℕ) → list_all is_number params ≡ true
      → AllFine (length ns + 4) (all_statements db ns params))
    where
      called : (params : List ℕ) (taken : ℕ) → list_all is_number params ≡ true
          → AllFine (length (n ∷ ns) + 4) (opcode_call n params ∷ all_statements db ns
          (drop taken params))
      called params taken small = raised (length ns + 4) (length (n ∷ ns) + 4)
          (opcode_call n params ∷ all_statements db ns (drop taken params)) (omega arith) (
            raised_one (call_fine (opcode_name n) (next_parameters (uses_of (opcode_of n)) params)
                (opcode_named n (natural_small n natural))
                (next_formed (uses_of (opcode_of n)) params small)),
            others (drop taken params) (dropped taken params small),
          ) where
            raised_one : Fine 2 (opcode_call n params) → Fine (length ns + 4) (opcode_call n params)
            raised_one h = record { formed = h.formed; shallow = omega (arith, h.shallow) }

      opcode_fine : (opcode : Opcode) (params : List ℕ) → list_all is_number params ≡ true
          → AllFine (length (n ∷ ns) + 4) (opcode_statements db opcode n params
          (all_statements db ns))
      opcode_fine Nothing params small =
          raised (length ns + 4) (length (n ∷ ns) + 4) (all_statements db ns params) (omega arith)
          (others params small)
      opcode_fine More params small =
          raised (length ns + 4) (length (n ∷ ns) + 4) (all_statements db ns params) (omega arith)
          (others params small)
      opcode_fine (Say m) params small =
          joined (length (n ∷ ns) + 4) (message_call db m) (all_statements db ns params)
          (raised 2 (length (n ∷ ns) + 4) (message_call db m) (omega arith)
          (message_fine db m limits))
          (raised (length ns + 4) (length (n ∷ ns) + 4) (all_statements db ns params) (omega arith)
          (others params small))
      opcode_fine Get params small = got_fine (length ns + 4) (length (n ∷ ns) + 4) params
          (all_statements db ns (drop 1 params)) (all_statements db ns params) (omega arith)
          (omega arith) small
          (others (drop 1 params) (dropped 1 params small)) (others params small)
      opcode_fine (Items op) params small = called params (uses_of (Items op)) small
      opcode_fine (Rooms op) params small = called params (uses_of (Rooms op)) small
      opcode_fine (Flags op) params small = called params (uses_of (Flags op)) small
      opcode_fine (Counters op) params small = called params (uses_of (Counters op)) small
      opcode_fine (Talk op) params small = called params (uses_of (Talk op)) small
      opcode_fine Refill params small = called params (uses_of Refill) small
      opcode_fine Score params small = called params (uses_of Score) small
      opcode_fine Die params small = called params (uses_of Die) small
      opcode_fine Finish params small = called params (uses_of Finish) small
      opcode_fine Screen params small = called params (uses_of Screen) small
      opcode_fine Picture params small = called params (uses_of Picture) small

  opcodes_fine : (ns : List ℕ) → list_all is_natural ns ≡ true → (params : List ℕ)
      → list_all is_number params ≡ true → AllFine (length ns + 4) (all_statements db ns params)
  opcodes_fine [] h params small = tt
  opcodes_fine (n ∷ ns) h params small =
      opcode_fine n ns (and_parts (is_natural n) (list_all is_natural ns) h).0
      (opcodes_fine ns (and_parts (is_natural n) (list_all is_natural ns) h).1)
      (opcode_of n) params small

-- ---- a line

-- the two opcode numbers in each natural number are natural
numbers_natural : (pairs : List ℕ) → list_all is_natural pairs ≡ true
    → list_all is_natural (flat_map (λ pair. pair / 150 ∷ pair % 150 ∷ []) pairs) ≡ true
numbers_natural [] h = refl
numbers_natural (pair ∷ pairs) h = both (is_natural (pair / 150)) _
    (natural_part pair (and_parts (is_natural pair) (list_all is_natural pairs) h).0)
    (both (is_natural (pair % 150)) _ (second_natural pair)
    (numbers_natural pairs (and_parts (is_natural pair) (list_all is_natural pairs) h).1)) where
      natural_part : (n : ℕ) → is_natural n ≡ true → is_natural (n / 150) ≡ true
      natural_part n h = grind (arith, h)

      second_natural : (n : ℕ) → is_natural (n % 150) ≡ true
      second_natural n = grind arith

numbers_few : (pairs : List ℕ)
    → length (flat_map (λ pair. pair / 150 ∷ pair % 150 ∷ []) pairs) ≡ length pairs * 2
numbers_few [] = refl
numbers_few (pair ∷ pairs) = omega (arith, numbers_few pairs)

-- the parameters among natural conditions can be written as numbers
parameters_small : (conds : List ℕ) → list_all is_natural conds ≡ true
    → list_all is_number (map argument_of (filter (λ c. condition_code c == 0) conds)) ≡ true
parameters_small [] h = refl
parameters_small (packed ∷ conds) h = from (condition_code packed == 0)
    (and_parts (is_natural packed) (list_all is_natural conds) h).0
    (parameters_small conds (and_parts (is_natural packed) (list_all is_natural conds) h).1) where
      from : (b : Bool) → is_natural packed ≡ true
          → list_all is_number (map argument_of (filter (λ c. condition_code c == 0) conds)) ≡ true
          → list_all is_number (map argument_of (cond b
          (packed ∷ filter (λ c. condition_code c == 0) conds)
          (filter (λ c. condition_code c == 0) conds))) ≡ true
      from true natural rest = both _ _ (argument_number packed natural) rest
      from false natural rest = rest

value_fine : (b : Bool) → Fine 5 (s.Return (Some (v.Number (if b then 2 else 1))))
value_fine true = record { formed = refl; shallow = omega arith }
value_fine false = record { formed = refl; shallow = omega arith }

-- what the limits say of a line
pub record Natural (a : Action) : Type 0 where
  pub conds : list_all is_natural a.conds ≡ true
  pub two : length a.pairs ≡ 2
  pub pairs : list_all is_natural a.pairs ≡ true

abbrev pairs_are : Action → Bool
pairs_are a = length a.pairs == 2 && list_all is_natural a.pairs

abbrev lists_are : Action → Bool
lists_are a = list_all is_natural a.conds && pairs_are a

-- a line of a file has natural conditions, and two natural numbers for its opcodes
pub natural_line : (a : Action) → is_action a ≡ true → Natural a
natural_line a h = record { conds = three.0; two = is_two four.0; pairs = four.1 } where
  one : (length a.conds == 5) && lists_are a ≡ true
  one = (and_parts (is_natural a.vocab) ((length a.conds == 5) && lists_are a) h).1

  three : (list_all is_natural a.conds ≡ true) × (pairs_are a ≡ true)
  three = and_parts (list_all is_natural a.conds) (pairs_are a)
      (and_parts (length a.conds == 5) (lists_are a) one).1

  four : ((length a.pairs == 2) ≡ true) × (list_all is_natural a.pairs ≡ true)
  four = and_parts (length a.pairs == 2) (list_all is_natural a.pairs) three.1

  is_two : (length a.pairs == 2) ≡ true → length a.pairs ≡ 2
  is_two h = grind (arith, h)

-- the body of a line's routine is formed, and at most 8 deep
pub body_fine : (db : Database) (a : Action) → KeepsLimits db → Natural a → AllFine 8
    (line_body db a)
body_fine db a limits h = joined 8 (map condition_test (filter is_test a.conds)) _
    (raised 5 8 (map condition_test (filter is_test a.conds)) (omega arith)
    (tests_fine a.conds h.conds))
    (joined 8 (all_statements db (opcode_numbers a) (parameters a)) _
    (raised (length (opcode_numbers a) + 4) 8 _ (omega (arith, numbers_few a.pairs, h.two))
    (opcodes_fine db limits (opcode_numbers a) (numbers_natural a.pairs h.pairs) (parameters a)
    (parameters_small a.conds h.conds)))
    (raised 5 8 (s.Return (Some (v.Number (line_value a))) ∷ []) (omega arith)
    (value_fine (goes_on_after a), tt)))

line_formed : (db : Database) (k : ℕ) (a : Action) → KeepsLimits db → Natural a → k < 2 ^ 32
    → is_formed_directive (d.Routine (routine_of_line db k a)) ≡ true
line_formed db k a limits h small = both _ _ (line_named k small) (both _ _
    (grind (arith, all_shallow 8 (line_body db a) (body_fine db a limits h)))
    (all_formed 8 (line_body db a) (body_fine db a limits h)))

-- the routines of lines from a number on are well formed, where none is numbered 5,000 or more
lines_formed : (db : Database) → KeepsLimits db → (k : ℕ) (actions : List Action)
    → k + length actions ≤ 5000 → list_all is_action actions ≡ true
    → is_well_formed (lines_from db k actions) ≡ true
lines_formed db limits k [] fits h = refl
lines_formed db limits k (a ∷ actions) fits h = from (is_zero_action a)
    (lines_formed db limits (k + 1) actions (omega (arith, fits))
    (and_parts (is_action a) (list_all is_action actions) h).1) where
      from : (b : Bool) → is_well_formed (lines_from db (k + 1) actions) ≡ true
          → is_well_formed (if b then lines_from db (k + 1) actions
          else d.Routine (routine_of_line db k a) ∷ lines_from db (k + 1) actions) ≡ true
      from true rest = rest
      from false rest = both _ _ (line_formed db k a limits
          (natural_line a (and_parts (is_action a) (list_all is_action actions) h).0)
          (omega (arith, fits))) rest

-- ---- the routines that lines call

well_both : (xs ys : List DirectiveTree) → is_well_formed xs ≡ true → is_well_formed ys ≡ true
    → is_well_formed (xs ++ ys) ≡ true
well_both xs ys h k = list_all-append is_formed_directive xs ys
    ∙ both (is_well_formed xs) (is_well_formed ys) h k

module _ (names : List (List ℕ)) (given : List ℕ) where
  abbrev RowsFormed : List Row → Type 0
  RowsFormed rows = is_well_formed (rows_directives names given rows) ≡ true

  abbrev is_formed_row : Row → Bool
  is_formed_row row = is_formed_directive (d.Routine (row_routine names given row))

  -- where all routines of a table are well formed, so are those that are used
  used_formed : (test : ℕ → Bool) (helpers : List Helper) → RowsFormed (map (λ h. h.1) helpers)
      → RowsFormed (used_rows test helpers)
  used_formed test [] all = refl
  used_formed test (h ∷ helpers) all = from (list_any test h.0)
      (and_parts (is_formed_row h.1) (is_well_formed (rows_directives names given
      (map (λ h. h.1) helpers))) all).0
      (used_formed test helpers (and_parts (is_formed_row h.1) (is_well_formed
      (rows_directives names given (map (λ h. h.1) helpers))) all).1) where
        from : (b : Bool) → is_formed_row h.1 ≡ true → RowsFormed (used_rows test helpers)
            → RowsFormed (map (λ h. h.1) (cond b (h ∷ filter (λ h. list_any test h.0) helpers)
            (filter (λ h. list_any test h.0) helpers)))
        from true own rest = both (is_formed_row h.1)
            (is_well_formed (rows_directives names given (used_rows test helpers))) own rest
        from false own rest = rest

  rows_both : (xs ys : List Row) → RowsFormed xs → RowsFormed ys → RowsFormed (xs ++ ys)
  rows_both [] ys h k = k
  rows_both (x ∷ xs) ys h k = both (is_formed_row x)
      (is_well_formed (rows_directives names given (xs ++ ys)))
      (and_parts (is_formed_row x) (is_well_formed (rows_directives names given xs)) h).0
      (rows_both xs ys (and_parts (is_formed_row x)
      (is_well_formed (rows_directives names given xs)) h).1 k)

module _ (items rooms last lasts : ℕ) where
  conditions_formed : (you counted vanish : Bool) → is_number items ≡ true
      → RowsFormed (action_names (record { you = you; counted = counted; vanish = vanish }))
      (items ∷ rooms ∷ last ∷ lasts ∷ []) (map (λ h. h.1) conditions)
  unfolding body_of text_of second_person action_names
  conditions_formed true counted vanish h1 = rw h1 refl
  conditions_formed false counted vanish h1 = rw h1 refl

  opcodes_formed : (you counted vanish : Bool) → is_number items ≡ true → is_number rooms ≡ true
      → is_number last ≡ true
      → RowsFormed (action_names (record { you = you; counted = counted; vanish = vanish }))
      (items ∷ rooms ∷ last ∷ lasts ∷ []) (map (λ h. h.1) opcodes)
  unfolding body_of text_of second_person action_names
  opcodes_formed true counted vanish h1 h2 h3 = rw (h1, h2, h3) refl
  opcodes_formed false counted vanish h1 h2 h3 = rw (h1, h2, h3) refl

  refill_formed : (you counted vanish : Bool) (light : ℤ) → is_number items ≡ true
      → is_number lasts ≡ true
      → RowsFormed (action_names (record { you = you; counted = counted; vanish = vanish }))
      (items ∷ rooms ∷ last ∷ lasts ∷ []) (map (λ h. h.1) (refill light))
  unfolding body_of text_of second_person action_names
  refill_formed you counted vanish (pos n) h1 h4 = rw h4 refl
  refill_formed you counted vanish (negsuc n) h1 h4 = refl

light_few : (z : ℤ) → is_whole z ≡ true → is_number (light_number z) ≡ true
light_few (pos n) h = grind (arith, ints, h)
light_few (negsuc n) h = refl

header_light : (h : Header) → are_header_numbers h ≡ true → is_whole h.light ≡ true
header_light h all = (and_parts (is_whole h.light) (list_all is_whole (h.home ∷ [])) three).0 where
  one : list_all is_whole (h.carry ∷ h.treasures ∷ h.light ∷ h.home ∷ []) ≡ true
  one = (and_parts (is_whole h.unused)
      (list_all is_whole (h.carry ∷ h.treasures ∷ h.light ∷ h.home ∷ [])) all).1

  two : list_all is_whole (h.treasures ∷ h.light ∷ h.home ∷ []) ≡ true
  two = (and_parts (is_whole h.carry) (list_all is_whole (h.treasures ∷ h.light ∷ h.home ∷ []))
      one).1

  three : list_all is_whole (h.light ∷ h.home ∷ []) ≡ true
  three = (and_parts (is_whole h.treasures) (list_all is_whole (h.light ∷ h.home ∷ [])) two).1

-- the routines of conditions and opcodes are well formed, where the numbers of the database that
-- they hold can be written
helpers_formed : (style : Style) (db : Database) → is_number (length db.items) ≡ true
    → is_number (length db.rooms) ≡ true → is_number (last_room db) ≡ true
    → is_number (light_number db.header.light) ≡ true
    → is_well_formed (helper_directives style db) ≡ true
helpers_formed style db h1 h2 h3 h4 = rows_both (action_names style) (numbers db)
    (used_rows (uses kind.Condition db) conditions)
    (used_rows (uses kind.Opcode db) opcodes ++ used_rows (uses kind.Opcode db)
    (refill db.header.light))
    (used_formed (action_names style) (numbers db) (uses kind.Condition db) conditions
    (conditions_formed (length db.items) (length db.rooms) (last_room db)
    (light_number db.header.light) style.you style.counted style.vanish h1))
    (rows_both (action_names style) (numbers db) (used_rows (uses kind.Opcode db) opcodes)
    (used_rows (uses kind.Opcode db) (refill db.header.light))
    (used_formed (action_names style) (numbers db) (uses kind.Opcode db) opcodes
    (opcodes_formed (length db.items) (length db.rooms) (last_room db)
    (light_number db.header.light) style.you style.counted style.vanish h1 h2 h3))
    (used_formed (action_names style) (numbers db) (uses kind.Opcode db) (refill db.header.light)
    (refill_formed (length db.items) (length db.rooms) (last_room db) (light_number db.header.light)
    style.you style.counted style.vanish db.header.light h1
    h4)))

pub actions_formed : ActionsFormed
actions_formed style db limits = well_both (helper_directives style db) (line_directives db)
    (helpers_formed style db
    (grind (arith, few 255 db.items limits.sizes.items))
    (grind (arith, few 255 db.rooms limits.sizes.rooms))
    (grind (arith, few 255 db.rooms limits.sizes.rooms))
    (light_few db.header.light (header_light db.header limits.header.numbers)))
    (lines_formed db limits 0 db.actions
    (omega (arith, few 5000 db.actions limits.sizes.actions))
    limits.entries.actions)
