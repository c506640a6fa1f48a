-- The routines of action lines and of groups, as they are written.
use Rattle.std.specs.Prelude.{ℕ, zero, suc, ◌==◌, nat_lt, Bool, true, not, if◌then◌else◌, List, [], ◌∷◌, ◌++◌, map, filter, drop, length, slice_index, codes, Some}
use Rattle.inform_tree.specs.declared.conditions.Relation.TheVariants.{Eq}
use Rattle.inform_tree.specs.Values as v
use Rattle.inform_tree.specs.Values.{Expression, Arguments, arguments}
use Rattle.inform_tree.specs.Conditions as c
use Rattle.inform_tree.specs.Statements as s
use Rattle.inform_tree.specs.Statements.{Statement, statements}
use Rattle.inform_tree.specs.Programs.{RoutineTree}
use Rattle.scott_types.specs.declared.parts.Action.{Action}
use Rattle.scott_types.specs.declared.opcodes.Opcode.{Opcode}
use Rattle.scott_types.specs.declared.opcodes.Opcode.TheVariants.{Nothing, Say, Get, More}
use Rattle.scott_types.specs.Database.{Database, action_at}
use Rattle.scott_types.specs.Opcode.{opcode_of, uses}
use Rattle.scott_types.specs.Action.{argument_of, condition_code, parameters, opcode_numbers, is_zero_action}
use Rattle.scott_rules.specs.Actions.{goes_on_after}
use Rattle.scott_rules.specs.Groups.{Group}
use Rattle.trans_specs.specs.Names.{message_name, condition_name, opcode_name, group_name, line_name}

-- ---- calls

abbrev pub number_arguments : List ℕ → Arguments
number_arguments xs = arguments (map v.Number xs)

-- the value of a routine, and a call that drops it
abbrev pub call_value : List ℕ → List ℕ → Expression
call_value name xs = v.Call name (number_arguments xs)

abbrev pub call_statement : List ℕ → List ℕ → Statement
call_statement name xs = s.Call name (number_arguments xs)

-- ---- conditions

-- `if (~~(cond_c(a))) rfalse;`
abbrev pub condition_test : ℕ → Statement
condition_test packed =
    let holds = call_value (condition_name (condition_code packed)) (argument_of packed ∷ []) in
    s.If (c.Not (c.Nonzero holds)) (statements (s.Rfalse ∷ [])) s.NoStatements

-- a condition of code 0 gives a parameter, and is no test
abbrev pub is_test : ℕ → Bool
is_test packed = not (condition_code packed == 0)

abbrev pub condition_tests : Action → List Statement
condition_tests a = map condition_test (filter is_test a.conds)

-- ---- opcodes

-- the next parameters, each 0 where none is left
abbrev pub next_parameters : ℕ → List ℕ → List ℕ
next_parameters zero params = []
next_parameters (suc n) params = slice_index params 0 ∷ next_parameters n (drop 1 params)

-- `op_n(p, q);`
abbrev pub opcode_call : ℕ → List ℕ → Statement
opcode_call n params = call_statement (opcode_name n) (next_parameters (uses (opcode_of n)) params)

-- nothing for a message that isn't there
abbrev pub message_call : Database → ℕ → List Statement
message_call db m =
    if nat_lt m (length db.messages) then call_statement (message_name m) [] ∷ [] else []

abbrev pub get_number : ℕ
get_number = 52

-- A get that is followed by nothing is called. Otherwise what follows stands in two branches: where
-- it took its parameter, and where it left it.
abbrev pub get_statements : List ℕ → List Statement → List Statement → List Statement
get_statements params [] [] = opcode_call get_number params ∷ []
get_statements params taken left =
    let took = call_value (opcode_name get_number) (next_parameters 1 params) in
    s.If (c.Nonzero took) (statements taken) (statements left) ∷ []

-- the statements of an opcode, and then those of the others with the parameters that are left
abbrev pub opcode_statements : Database → Opcode → ℕ → List ℕ → (List ℕ → List Statement)
    → List Statement
opcode_statements db Nothing n params others = others params
opcode_statements db More n params others = others params
opcode_statements db (Say message) n params others = message_call db message ++ others params
opcode_statements db Get n params others =
    get_statements params (others (drop 1 params)) (others params)
opcode_statements db opcode n params others =
    opcode_call n params ∷ others (drop (uses opcode) params)

-- those of opcodes by their numbers
abbrev pub all_statements : Database → List ℕ → List ℕ → List Statement
all_statements db [] params = []
all_statements db (n ∷ ns) params =
    opcode_statements db (opcode_of n) n params (all_statements db ns)

-- ---- a line

abbrev pub line_value : Action → ℕ
line_value a = if goes_on_after a then 2 else 1

abbrev pub line_body : Database → Action → List Statement
line_body db a = condition_tests a
    ++ (all_statements db (opcode_numbers a) (parameters a)
    ++ s.Return (Some (v.Number (line_value a))) ∷ [])

abbrev pub line_routine : Database → ℕ → RoutineTree
line_routine db k = record {
  name = line_name k;
  locals = [];
  body = statements (line_body db (action_at db k));
}

-- ---- a group

-- the lines of a tail that aren't all zeros
abbrev pub tail_lines : Database → Group → List ℕ
tail_lines db g = filter (λ k. not (is_zero_action (action_at db k))) g.tail

-- `r = line_k(); if (r == 2) { line_i(); line_j(); } return r;`
abbrev pub tail_body : ℕ → List ℕ → List Statement
tail_body head tail =
    let all_tried = statements (map (λ k. call_statement (line_name k) []) tail) in
    s.Assign (s.Set (codes "r") (call_value (line_name head) []))
    ∷ s.If (c.Compare Eq (v.Name (codes "r")) (v.Number 2)) all_tried s.NoStatements
    ∷ s.Return (Some (v.Name (codes "r"))) ∷ []

-- a head that doesn't go on, or has no such lines, is all of its routine
abbrev pub group_parts : Bool → ℕ → List ℕ → List (List ℕ) × List Statement
group_parts true head (k ∷ tail) = (codes "r" ∷ [], tail_body head (k ∷ tail))
group_parts goes_on head tail = ([], s.Return (Some (call_value (line_name head) [])) ∷ [])

abbrev pub group_routine : Database → Group → RoutineTree
group_routine db g =
    let parts = group_parts (goes_on_after (action_at db g.head)) g.head (tail_lines db g) in
    record { name = group_name g.head; locals = parts.0; body = statements parts.1 }
