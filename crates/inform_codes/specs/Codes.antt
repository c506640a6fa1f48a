-- What each code makes of the trees that wait.
use Rattle.std.specs.Prelude.{ℕ, Bool, List, [], ◌∷◌, Some, None, unwrap_or, slice_get}
use Rattle.inform_tree.specs.declared.values.SumOp.{SumOp}
use Rattle.inform_tree.specs.declared.values.ProdOp.{ProdOp}
use Rattle.inform_tree.specs.declared.values.Const.TheVariants as k
use Rattle.inform_tree.specs.declared.conditions.Relation.{Relation}
use Rattle.inform_tree.specs.Values as v
use Rattle.inform_tree.specs.Conditions as c
use Rattle.inform_tree.specs.Conditions.{Conditions}
use Rattle.inform_tree.specs.Statements as s
use Rattle.inform_tree.specs.Statements.{Choice}
use Rattle.inform_codes.specs.declared.codes.Code.{Code}
use Rattle.inform_codes.specs.declared.codes.Code.TheVariants as code
use Rattle.inform_codes.specs.Parts.{Parts, nearest_value, nearest_arguments, nearest_test, nearest_block, nearest_branches, with_value, less_value, with_arguments, less_arguments, with_test, less_test, with_block, less_block, no_branches, with_branches, less_branches, with_choice, less_choices, with_statement}

-- the name at this place, or an empty one
abbrev pub name_in : List (List ℕ) → ℕ → List ℕ
name_in names at = unwrap_or (slice_get names at) []

-- the number that is handed in at this place, or 0
abbrev pub given_in : List ℕ → ℕ → ℕ
given_in given at = unwrap_or (slice_get given at) 0

-- ---- values

abbrev pub with_entry : List ℕ → Bool → Parts → Parts
with_entry name words p = with_value (v.Entry name words (nearest_value p)) (less_value p)

abbrev pub with_call_value : List ℕ → Parts → Parts
with_call_value name p = with_value (v.Call name (nearest_arguments p)) (less_arguments p)

abbrev pub with_random : Parts → Parts
with_random p = with_value (v.Random (nearest_value p)) (less_value p)

abbrev pub with_neg : Parts → Parts
with_neg p = with_value (v.Neg (nearest_value p)) (less_value p)

abbrev pub with_sum : SumOp → Parts → Parts
with_sum op p =
    let terms = v.MoreTerms op (nearest_value (less_value p)) v.NoTerms in
    with_value (v.Sum (nearest_value p) terms) (less_value (less_value p))

abbrev pub with_product : ProdOp → Parts → Parts
with_product op p =
    let factors = v.MoreFactors op (nearest_value (less_value p)) v.NoFactors in
    with_value (v.Product (nearest_value p) factors) (less_value (less_value p))

abbrev pub with_argument : Parts → Parts
with_argument p =
    with_arguments (v.MoreArguments (nearest_value p) (nearest_arguments p))
    (less_value (less_arguments p))

-- ---- conditions

abbrev pub with_compare : Relation → Parts → Parts
with_compare relation p =
    let test = c.Compare relation (nearest_value p) (nearest_value (less_value p)) in
    with_test test (less_value (less_value p))

abbrev pub with_nonzero : Parts → Parts
with_nonzero p = with_test (c.Nonzero (nearest_value p)) (less_value p)

abbrev pub with_not : Parts → Parts
with_not p = with_test (c.Not (nearest_test p)) (less_test p)

-- the two nearest conditions
abbrev pub two_tests : Parts → Conditions
two_tests p =
    c.MoreConditions (nearest_test p) (c.MoreConditions (nearest_test (less_test p)) c.NoConditions)

abbrev pub with_both : Parts → Parts
with_both p = with_test (c.All (two_tests p)) (less_test (less_test p))

abbrev pub with_either : Parts → Parts
with_either p = with_test (c.Any (two_tests p)) (less_test (less_test p))

-- ---- statements

abbrev pub with_set : List ℕ → Parts → Parts
with_set name p = with_statement (s.Assign (s.Set name (nearest_value p))) (less_value p)

abbrev pub with_set_entry : List ℕ → Bool → Parts → Parts
with_set_entry name words p =
    let change = s.SetEntry name words (nearest_value p) (nearest_value (less_value p)) in
    with_statement (s.Assign change) (less_value (less_value p))

abbrev pub with_call : List ℕ → Parts → Parts
with_call name p = with_statement (s.Call name (nearest_arguments p)) (less_arguments p)

abbrev pub with_if : Parts → Parts
with_if p =
    let choice = s.If (nearest_test p) (nearest_block p) (nearest_block (less_block p)) in
    with_statement choice (less_test (less_block (less_block p)))

abbrev pub with_while : Parts → Parts
with_while p =
    with_statement (s.While (nearest_test p) (nearest_block p)) (less_test (less_block p))

-- the variable that is set first, and the one that counts up by 1
abbrev pub with_for : List ℕ → List ℕ → Parts → Parts
with_for first next p =
    let set = s.Set first (nearest_value p) in
    let loop = s.For (Some set) (Some (nearest_test p)) (Some (s.Inc next)) (nearest_block p) in
    with_statement loop (less_value (less_test (less_block p)))

abbrev pub with_return : Parts → Parts
with_return p = with_statement (s.Return (Some (nearest_value p))) (less_value p)

abbrev pub with_print : List ℕ → Parts → Parts
with_print text p = with_statement (s.Print (s.Text text ∷ [])) p

abbrev pub with_print_value : Parts → Parts
with_print_value p = with_statement (s.Print (s.Value (nearest_value p) ∷ [])) (less_value p)

abbrev pub with_print_char : Parts → Parts
with_print_char p = with_statement (s.Print (s.Char (nearest_value p) ∷ [])) (less_value p)

-- ---- switches

-- a case with the choices that wait, before the other cases
abbrev pub with_case : Parts → Parts
with_case p =
    let others = nearest_branches p in
    let all = record others { cases = s.MoreCases p.choices (nearest_block p) others.cases } in
    with_branches all (less_choices (less_block (less_branches p)))

abbrev pub with_default : Parts → Parts
with_default p =
    let branches = record no_branches { otherwise = s.SomeDefault (nearest_block p) } in
    with_branches branches (less_block p)

abbrev pub with_switch : Parts → Parts
with_switch p =
    let branches = nearest_branches p in
    let choice = s.Switch (nearest_value p) branches.cases branches.otherwise in
    with_statement choice (less_value (less_branches p))

-- ---- a line for each code

abbrev pub taken : List (List ℕ) → List ℕ → Code → Parts → Parts
taken names given (code.Number n) p = with_value (v.Number n) p
taken names given (code.Given at) p = with_value (v.Number (given_in given at)) p
taken names given (code.Variable at) p = with_value (v.Name (name_in names at)) p
taken names given (code.Entry at words) p = with_entry (name_in names at) words p
taken names given (code.CallValue at) p = with_call_value (name_in names at) p
taken names given code.Random p = with_random p
taken names given code.Neg p = with_neg p
taken names given (code.Sum op) p = with_sum op p
taken names given (code.Product op) p = with_product op p
taken names given code.Argument p = with_argument p
taken names given code.NoMore p = with_arguments v.NoArguments p
taken names given (code.Compare relation) p = with_compare relation p
taken names given code.Nonzero p = with_nonzero p
taken names given code.Not p = with_not p
taken names given code.Both p = with_both p
taken names given code.Either p = with_either p
taken names given (code.Set at) p = with_set (name_in names at) p
taken names given (code.SetEntry at words) p = with_set_entry (name_in names at) words p
taken names given (code.Inc at) p = with_statement (s.Assign (s.Inc (name_in names at))) p
taken names given (code.Dec at) p = with_statement (s.Assign (s.Dec (name_in names at))) p
taken names given (code.Call at) p = with_call (name_in names at) p
taken names given code.If p = with_if p
taken names given code.While p = with_while p
taken names given (code.For at) p = with_for (name_in names at) (name_in names at) p
taken names given code.Switch p = with_switch p
taken names given code.Break p = with_statement s.Break p
taken names given code.Quit p = with_statement s.Quit p
taken names given code.Rtrue p = with_statement s.Rtrue p
taken names given code.Rfalse p = with_statement s.Rfalse p
taken names given code.Return p = with_return p
taken names given code.NewLine p = with_statement s.NewLine p
taken names given (code.Print at) p = with_print (name_in names at) p
taken names given code.PrintValue p = with_print_value p
taken names given code.PrintChar p = with_print_char p
taken names given (code.Read line words) p =
    with_statement (s.Read (name_in names line) (name_in names words)) p
taken names given code.End p = with_block s.NoStatements p
taken names given code.Case p = with_case p
taken names given (code.Choice n) p = with_choice (k.Number n, None) p
taken names given (code.Range first last) p = with_choice (k.Number first, Some (k.Number last)) p
taken names given code.Default p = with_default p
taken names given code.NoDefault p = with_branches no_branches p
