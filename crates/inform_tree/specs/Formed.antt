-- Which programs are well formed: those that have a text.
use Rattle.std.specs.Prelude.{Bool, true, false, ◌&&◌, nat_lt, nat_le, List, length, Option, Some, None}
use Rattle.std.specs.List.{list_all}
use Rattle.inform_tree.specs.declared.values.Const.{Const}
use Rattle.inform_tree.specs.declared.values.Const.TheVariants as k
use Rattle.inform_tree.specs.declared.formed_programs.TheConstants.{DEPTH_LIMIT}
use Rattle.inform_tree.specs.declared.statements.Head.{Head}
use Rattle.inform_tree.specs.Values as v
use Rattle.inform_tree.specs.Values.{Expression, Arguments, Terms, Factors}
use Rattle.inform_tree.specs.Conditions as c
use Rattle.inform_tree.specs.Conditions.{Condition, Conditions}
use Rattle.inform_tree.specs.Statements as s
use Rattle.inform_tree.specs.Statements.{Statement, Statements, Cases, Default, Assignment, PrintItem, Choice, assignment_if_any, condition_if_any}
use Rattle.inform_tree.specs.Programs as d
use Rattle.inform_tree.specs.Programs.{RoutineTree, DirectiveTree}
use Rattle.inform_tree.specs.Depths.{routine_depth}
use Rattle.inform_tree.specs.Words.{is_name, is_character, is_number, is_text}

-- ---- lists and what may be left out

-- not empty
abbrev pub has_some : {X : Type 0} → List X → Bool
has_some xs = nat_lt 0 (length xs)

abbrev pub has_terms : Terms → Bool
has_terms v.NoTerms = false
has_terms (v.MoreTerms op x xs) = true

abbrev pub has_factors : Factors → Bool
has_factors v.NoFactors = false
has_factors (v.MoreFactors op x xs) = true

-- at least two
abbrev pub has_two : Conditions → Bool
has_two c.NoConditions = false
has_two (c.MoreConditions x c.NoConditions) = false
has_two (c.MoreConditions x (c.MoreConditions y xs)) = true

-- absent, or formed itself
abbrev pub is_formed_if_any : {X : Type 0} → (X → Bool) → Option X → Bool
is_formed_if_any formed None = true
is_formed_if_any formed (Some x) = formed x

-- ---- constants and expressions

abbrev pub is_formed_constant : Const → Bool
is_formed_constant (k.Number n) = is_number n
is_formed_constant (k.Char byte) = is_character byte
is_formed_constant (k.Name name) = is_name name
is_formed_constant (k.Minus n) = is_number n

abbrev mutual
  pub is_formed_expression : Expression → Bool
  is_formed_expression (v.Number n) = is_number n
  is_formed_expression (v.Char byte) = is_character byte
  is_formed_expression (v.Name name) = is_name name
  is_formed_expression (v.Entry name words index) = is_name name && is_formed_expression index
  is_formed_expression (v.Call name xs) = is_name name && are_formed_arguments xs
  is_formed_expression (v.Random limit) = is_formed_expression limit
  is_formed_expression (v.Neg operand) = is_formed_expression operand
  is_formed_expression (v.Sum first xs) =
      is_formed_expression first && (has_terms xs && are_formed_terms xs)
  is_formed_expression (v.Product first xs) =
      is_formed_expression first && (has_factors xs && are_formed_factors xs)

  pub are_formed_arguments : Arguments → Bool
  are_formed_arguments v.NoArguments = true
  are_formed_arguments (v.MoreArguments x xs) = is_formed_expression x && are_formed_arguments xs

  pub are_formed_terms : Terms → Bool
  are_formed_terms v.NoTerms = true
  are_formed_terms (v.MoreTerms op x xs) = is_formed_expression x && are_formed_terms xs

  pub are_formed_factors : Factors → Bool
  are_formed_factors v.NoFactors = true
  are_formed_factors (v.MoreFactors op x xs) = is_formed_expression x && are_formed_factors xs

-- the further parts of a sum, and of a product
abbrev pub is_formed_sum : Terms → Bool
is_formed_sum xs = has_terms xs && are_formed_terms xs

abbrev pub is_formed_product : Factors → Bool
is_formed_product xs = has_factors xs && are_formed_factors xs

abbrev pub are_formed_both : Expression → Expression → Bool
are_formed_both x y = is_formed_expression x && is_formed_expression y

-- ---- conditions

abbrev mutual
  pub is_formed_condition : Condition → Bool
  is_formed_condition (c.Compare relation left right) =
      is_formed_expression left && is_formed_expression right
  is_formed_condition (c.Nonzero x) = is_formed_expression x
  is_formed_condition (c.All xs) = has_two xs && are_formed_conditions xs
  is_formed_condition (c.Any xs) = has_two xs && are_formed_conditions xs
  is_formed_condition (c.Not x) = is_formed_condition x

  pub are_formed_conditions : Conditions → Bool
  are_formed_conditions c.NoConditions = true
  are_formed_conditions (c.MoreConditions x xs) = is_formed_condition x && are_formed_conditions xs

-- the members of a chain of conditions
abbrev pub is_formed_chain : Conditions → Bool
is_formed_chain xs = has_two xs && are_formed_conditions xs

-- ---- statements

abbrev pub is_formed_assignment : Assignment → Bool
is_formed_assignment (s.Set name x) = is_name name && is_formed_expression x
is_formed_assignment (s.SetEntry name words index x) = is_name name && are_formed_both index x
is_formed_assignment (s.Inc name) = is_name name
is_formed_assignment (s.Dec name) = is_name name

abbrev pub is_formed_item : PrintItem → Bool
is_formed_item (s.Text text) = is_text text
is_formed_item (s.Value x) = is_formed_expression x
is_formed_item (s.Char x) = is_formed_expression x

abbrev pub are_formed_items : List PrintItem → Bool
are_formed_items xs = has_some xs && list_all is_formed_item xs

abbrev pub is_formed_choice : Choice → Bool
is_formed_choice x = is_formed_constant x.0 && is_formed_if_any is_formed_constant x.1

abbrev pub are_formed_choices : List Choice → Bool
are_formed_choices xs = has_some xs && list_all is_formed_choice xs

-- what stands in the brackets of a `for`
abbrev pub is_formed_head : Option Assignment → Option Condition → Option Assignment → Bool
is_formed_head first test next =
    is_formed_if_any is_formed_assignment first
    && (is_formed_if_any is_formed_condition test && is_formed_if_any is_formed_assignment next)

-- the same of a head of the program
abbrev pub is_formed_head_of : Head → Bool
is_formed_head_of head = is_formed_head (assignment_if_any head.first) (condition_if_any head.test)
    (assignment_if_any head.next)

abbrev mutual
  pub is_formed_statement : Statement → Bool
  is_formed_statement s.Empty = true
  is_formed_statement (s.Block body) = are_formed_statements body
  is_formed_statement (s.Assign change) = is_formed_assignment change
  is_formed_statement (s.Call name xs) = is_name name && are_formed_arguments xs
  is_formed_statement (s.If test body other) =
      is_formed_condition test && (are_formed_statements body && are_formed_statements other)
  is_formed_statement (s.While test body) = is_formed_condition test && are_formed_statements body
  is_formed_statement (s.Do body test) = are_formed_statements body && is_formed_condition test
  is_formed_statement (s.For first test next body) =
      is_formed_head first test next && are_formed_statements body
  is_formed_statement (s.Switch x xs rest) =
      is_formed_expression x && (are_formed_cases xs && is_formed_default rest)
  is_formed_statement s.Break = true
  is_formed_statement s.Continue = true
  is_formed_statement s.Quit = true
  is_formed_statement s.Rtrue = true
  is_formed_statement s.Rfalse = true
  is_formed_statement (s.Return x) = is_formed_if_any is_formed_expression x
  is_formed_statement s.NewLine = true
  is_formed_statement (s.Print items) = are_formed_items items
  is_formed_statement (s.Read line words) = is_name line && is_name words

  pub are_formed_statements : Statements → Bool
  are_formed_statements s.NoStatements = true
  are_formed_statements (s.MoreStatements x xs) = is_formed_statement x && are_formed_statements xs

  pub are_formed_cases : Cases → Bool
  are_formed_cases s.NoCases = true
  are_formed_cases (s.MoreCases choices body xs) =
      are_formed_choices choices && (are_formed_statements body && are_formed_cases xs)

  pub is_formed_default : Default → Bool
  is_formed_default s.NoDefault = true
  is_formed_default (s.SomeDefault body) = are_formed_statements body

-- ---- programs

abbrev pub is_formed_routine : RoutineTree → Bool
is_formed_routine r =
    is_name r.name
    && (list_all is_name r.locals
    && (nat_le (routine_depth r) DEPTH_LIMIT && are_formed_statements r.body))

abbrev pub are_formed_entries : List Const → Bool
are_formed_entries xs = has_some xs && list_all is_formed_constant xs

abbrev pub is_formed_directive : DirectiveTree → Bool
is_formed_directive (d.Constant name value) = is_name name && is_formed_constant value
is_formed_directive (d.Global name value) =
    is_name name && is_formed_if_any is_formed_constant value
is_formed_directive (d.Array name words entries) = is_name name && are_formed_entries entries
is_formed_directive (d.Routine r) = is_formed_routine r

abbrev pub is_well_formed : List DirectiveTree → Bool
is_well_formed directives = list_all is_formed_directive directives
