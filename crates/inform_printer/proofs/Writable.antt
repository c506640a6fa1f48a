-- The lexemes of a well-formed program can be written.
use Rattle.std.proofs.Common.{◌≡◌, ℕ, Bool, true, false, ◌&&◌, leb, List, [], ◌∷◌, Option, Some, None, refl}
use Rattle.std.specs.List.{list_all}
use Rattle.std.proofs.lemmas.Bool.{and_parts, and_from}
use Rattle.inform_tree.specs.declared.values.Const.{Const}
use Rattle.inform_tree.specs.declared.values.Const.TheVariants as k
use Rattle.inform_tree.specs.declared.formed_programs.TheConstants.{DEPTH_LIMIT}
use Rattle.inform_tree.specs.Values as v
use Rattle.inform_tree.specs.Values.{Expression, Arguments, Terms, Factors}
use Rattle.inform_tree.specs.Conditions as c
use Rattle.inform_tree.specs.Conditions.{Condition, Conditions}
use Rattle.inform_tree.specs.Statements as s
use Rattle.inform_tree.specs.Statements.{Statement, Statements, Cases, Default, Assignment, PrintItem, Choice}
use Rattle.inform_tree.specs.Programs as d
use Rattle.inform_tree.specs.Programs.{DirectiveTree, RoutineTree}
use Rattle.inform_tree.specs.Words.{is_name}
use Rattle.inform_tree.specs.Depths.{routine_depth}
use Rattle.inform_tree.specs.Formed.{has_some, has_terms, has_factors, has_two, is_formed_if_any, is_formed_constant, is_formed_expression, are_formed_arguments, are_formed_terms, are_formed_factors, is_formed_sum, is_formed_product, are_formed_both, is_formed_condition, are_formed_conditions, is_formed_assignment, is_formed_item, is_formed_choice, are_formed_choices, is_formed_head, is_formed_statement, are_formed_statements, are_formed_cases, is_formed_default, is_formed_routine, are_formed_entries, is_formed_directive, is_well_formed}
use Rattle.inform_lexemes.specs.declared.symbols.Symbol.{Symbol}
use Rattle.inform_lexemes.specs.declared.symbols.Symbol.TheVariants.{And, Or, Comma, Minus}
use Rattle.inform_lexemes.specs.Lexemes.{Lexeme, Name, Sign}
use Rattle.inform_grammar.specs.Lexemes.{arrow}
use Rattle.inform_lexer.specs.Written.{is_writable}
use Rattle.inform_printer.specs.ValueLexemes.{bracketed, separated, constant_lexemes, is_minus, entry_lexemes, value_lexemes, argument_lexemes, term_lexemes, factor_lexemes}
use Rattle.inform_printer.specs.ConditionLexemes.{condition_lexemes, member_lexemes}
use Rattle.inform_printer.specs.StatementLexemes.{assignment_lexemes, optional_lexemes, item_lexemes, items_lexemes, upper_lexemes, choice_lexemes, choices_lexemes, unless_none, statement_lexemes, statements_lexemes, cases_lexemes, default_lexemes}
use Rattle.inform_printer.specs.ProgramLexemes.{names_lexemes, entries_lexemes, first_value_lexemes, routine_lexemes, directive_lexemes, program_lexemes}

-- each of these lexemes can be written
data Writable : List Lexeme → Type 0 where
  end : Writable []
  also : {x : Lexeme} {xs : List Lexeme} → is_writable x ≡ true → Writable xs → Writable (x ∷ xs)

each_writable : {xs : List Lexeme} → Writable xs → list_all is_writable xs ≡ true
each_writable end = refl
each_writable (also {x = x} {xs = xs} f h) =
    and_from (is_writable x) (list_all is_writable xs) f (each_writable h)

-- before lexemes that can be written, these can be written too
abbrev Written : (List Lexeme → List Lexeme) → Type 0
Written lexemes = (rest : List Lexeme) → Writable rest → Writable (lexemes rest)

in_brackets : (part : Bool) (inside : List Lexeme → List Lexeme) → Written inside
    → Written (bracketed part inside)
in_brackets true inside f rest h = also refl (f _ (also refl h))
in_brackets false inside f rest h = f rest h

after_separator : (later : Bool) (symbol : Symbol) (rest : List Lexeme) → Writable rest
    → Writable (separated later symbol rest)
after_separator true symbol rest h = also refl h
after_separator false symbol rest h = h

-- ---- constants and expressions

constant_written : (x : Const) → is_formed_constant x ≡ true → Written (constant_lexemes x)
constant_written (k.Number n) f rest h = also f h
constant_written (k.Char byte) f rest h = also f h
constant_written (k.Name name) f rest h = also f h
constant_written (k.Minus n) f rest h = also refl (also f h)

entry_written : (x : Const) → is_formed_constant x ≡ true → Written (entry_lexemes x)
entry_written x f rest h =
    in_brackets (is_minus x) (constant_lexemes x) (constant_written x f) rest h

mutual
  -- the lexemes of a well-formed expression can be written
  value_written : (part : Bool) (x : Expression) → is_formed_expression x ≡ true
      → Written (value_lexemes part x)
  value_written part (v.Number n) f rest h = also f h
  value_written part (v.Char byte) f rest h = also f h
  value_written part (v.Name name) f rest h = also f h
  value_written part (v.Entry name words index) f rest h =
      let fs = and_parts (is_name name) (is_formed_expression index) f in
      in_brackets part (λ after. Name name ∷ Sign (arrow words) ∷ value_lexemes true index after)
      (λ after g. also fs.0 (also refl (value_written true index fs.1 after g))) rest h
  value_written part (v.Call name xs) f rest h =
      let fs = and_parts (is_name name) (are_formed_arguments xs) f in
      also fs.0 (also refl (arguments_written false xs fs.1 rest h))
  value_written part (v.Random limit) f rest h =
      also refl (also refl (value_written false limit f _ (also refl h)))
  value_written part (v.Neg operand) f rest h =
      in_brackets part (λ after. Sign Minus ∷ value_lexemes true operand after)
      (λ after g. also refl (value_written true operand f after g)) rest h
  value_written part (v.Sum first xs) f rest h =
      let fs = and_parts (is_formed_expression first) (is_formed_sum xs) f in
      let gs = and_parts (has_terms xs) (are_formed_terms xs) fs.1 in
      in_brackets part (λ after. value_lexemes true first (term_lexemes xs after))
      (λ after g. value_written true first fs.0 _ (terms_written xs gs.1 after g)) rest h
  value_written part (v.Product first xs) f rest h =
      let fs = and_parts (is_formed_expression first) (is_formed_product xs) f in
      let gs = and_parts (has_factors xs) (are_formed_factors xs) fs.1 in
      in_brackets part (λ after. value_lexemes true first (factor_lexemes xs after))
      (λ after g. value_written true first fs.0 _ (factors_written xs gs.1 after g)) rest h

  arguments_written : (later : Bool) (xs : Arguments) → are_formed_arguments xs ≡ true
      → Written (argument_lexemes later xs)
  arguments_written later v.NoArguments f rest h = also refl h
  arguments_written later (v.MoreArguments x xs) f rest h =
      let fs = and_parts (is_formed_expression x) (are_formed_arguments xs) f in
      after_separator later Comma _ (value_written false x fs.0 _
      (arguments_written true xs fs.1 rest h))

  terms_written : (xs : Terms) → are_formed_terms xs ≡ true → Written (term_lexemes xs)
  terms_written v.NoTerms f rest h = h
  terms_written (v.MoreTerms op x xs) f rest h =
      let fs = and_parts (is_formed_expression x) (are_formed_terms xs) f in
      also refl (value_written true x fs.0 _ (terms_written xs fs.1 rest h))

  factors_written : (xs : Factors) → are_formed_factors xs ≡ true → Written (factor_lexemes xs)
  factors_written v.NoFactors f rest h = h
  factors_written (v.MoreFactors op x xs) f rest h =
      let fs = and_parts (is_formed_expression x) (are_formed_factors xs) f in
      also refl (value_written true x fs.0 _ (factors_written xs fs.1 rest h))

-- ---- conditions

mutual
  -- the lexemes of a well-formed condition can be written
  condition_written : (member : Bool) (x : Condition) → is_formed_condition x ≡ true
      → Written (condition_lexemes member x)
  condition_written member (c.Compare relation left right) f rest h =
      let fs = and_parts (is_formed_expression left) (is_formed_expression right) f in
      value_written false left fs.0 _ (also refl (value_written false right fs.1 rest h))
  condition_written member (c.Nonzero x) f rest h = value_written false x f rest h
  condition_written member (c.All xs) f rest h =
      in_brackets member (member_lexemes And false xs)
      (λ after g. members_written And false xs
      (and_parts (has_two xs) (are_formed_conditions xs) f).1 after g) rest h
  condition_written member (c.Any xs) f rest h =
      in_brackets member (member_lexemes Or false xs)
      (λ after g. members_written Or false xs (and_parts (has_two xs)
      (are_formed_conditions xs) f).1 after g) rest h
  condition_written member (c.Not x) f rest h =
      also refl (also refl (condition_written false x f _ (also refl h)))

  members_written : (symbol : Symbol) (later : Bool) (xs : Conditions)
      → are_formed_conditions xs ≡ true → Written (member_lexemes symbol later xs)
  members_written symbol later c.NoConditions f rest h = h
  members_written symbol later (c.MoreConditions x xs) f rest h =
      let fs = and_parts (is_formed_condition x) (are_formed_conditions xs) f in
      after_separator later symbol _ (condition_written true x fs.0 _
      (members_written symbol true xs fs.1 rest h))

-- ---- changes, items of `print` and choices

-- the lexemes of a well-formed change can be written
change_written : (x : Assignment) → is_formed_assignment x ≡ true → Written (assignment_lexemes x)
change_written (s.Set name x) f rest h =
    let fs = and_parts (is_name name) (is_formed_expression x) f in
    also fs.0 (also refl (value_written false x fs.1 rest h))
change_written (s.SetEntry name words index x) f rest h =
    let fs = and_parts (is_name name) (are_formed_both index x) f in
    let gs = and_parts (is_formed_expression index) (is_formed_expression x) fs.1 in
    also fs.0 (also refl (value_written true index gs.0 _
    (also refl (value_written false x gs.1 rest h))))
change_written (s.Inc name) f rest h = also f (also refl h)
change_written (s.Dec name) f rest h = also f (also refl h)

optional_written : {X : Type 0} (formed : X → Bool) (lexemes : X → List Lexeme → List Lexeme)
    → ((x : X) → formed x ≡ true → Written (lexemes x))
    → (x : Option X) → is_formed_if_any formed x ≡ true → Written (optional_lexemes lexemes x)
optional_written formed lexemes each None f rest h = h
optional_written formed lexemes each (Some x) f rest h = each x f rest h

item_written : (x : PrintItem) → is_formed_item x ≡ true → Written (item_lexemes x)
item_written (s.Text text) f rest h = also f h
item_written (s.Value x) f rest h = value_written false x f rest h
item_written (s.Char x) f rest h =
    also refl (also refl (also refl (value_written false x f rest h)))

items_written : (later : Bool) (xs : List PrintItem) → list_all is_formed_item xs ≡ true
    → Written (items_lexemes later xs)
items_written later [] f rest h = h
items_written later (x ∷ xs) f rest h =
    let fs = and_parts (is_formed_item x) (list_all is_formed_item xs) f in
    after_separator later Comma _ (item_written x fs.0 _ (items_written true xs fs.1 rest h))

upper_written : (x : Const) → is_formed_constant x ≡ true → Written (upper_lexemes x)
upper_written x f rest h = also refl (constant_written x f rest h)

choice_written : (x : Choice) → is_formed_choice x ≡ true → Written (choice_lexemes x)
choice_written x f rest h =
    let fs = and_parts (is_formed_constant x.0) (is_formed_if_any is_formed_constant x.1) f in
    constant_written x.0 fs.0 _
    (optional_written is_formed_constant upper_lexemes upper_written x.1 fs.1 rest h)

choices_written : (later : Bool) (xs : List Choice) → list_all is_formed_choice xs ≡ true
    → Written (choices_lexemes later xs)
choices_written later [] f rest h = h
choices_written later (x ∷ xs) f rest h =
    let fs = and_parts (is_formed_choice x) (list_all is_formed_choice xs) f in
    after_separator later Comma _ (choice_written x fs.0 _ (choices_written true xs fs.1 rest h))

-- ---- statements

else_written : (xs : Statements) (lexemes : List Lexeme → List Lexeme) → Written lexemes
    → Written (unless_none xs lexemes)
else_written s.NoStatements lexemes f rest h = h
else_written (s.MoreStatements x xs) lexemes f rest h = f rest h

mutual
  -- the lexemes of a well-formed statement can be written
  statement_written : (x : Statement) → is_formed_statement x ≡ true → Written (statement_lexemes x)
  statement_written s.Empty f rest h = also refl h
  statement_written (s.Block body) f rest h = also refl (statements_written body f _ (also refl h))
  statement_written (s.Assign x) f rest h = change_written x f _ (also refl h)
  statement_written (s.Call name xs) f rest h =
      let fs = and_parts (is_name name) (are_formed_arguments xs) f in
      also fs.0 (also refl (arguments_written false xs fs.1 _ (also refl h)))
  statement_written (s.If test body other) f rest h =
      let fs = and_parts (is_formed_condition test)
      (are_formed_statements body && are_formed_statements other) f in
      let gs = and_parts (are_formed_statements body) (are_formed_statements other) fs.1 in
      also refl (also refl (condition_written false test fs.0 _
      (also refl (also refl (statements_written body gs.0 _ (also refl
      (else_written other _ (λ after g. also refl
      (also refl (statements_written other gs.1 _ (also refl g)))) rest h)))))))
  statement_written (s.While test body) f rest h =
      let fs = and_parts (is_formed_condition test) (are_formed_statements body) f in
      also refl (also refl (condition_written false test fs.0 _
      (also refl (also refl (statements_written body fs.1 _ (also refl h))))))
  statement_written (s.Do body test) f rest h =
      let fs = and_parts (are_formed_statements body) (is_formed_condition test) f in
      also refl (also refl (statements_written body fs.0 _ (also refl (also refl (also refl
      (condition_written false test fs.1 _ (also refl (also refl h))))))))
  statement_written (s.For first test next body) f rest h =
      let fs = and_parts (is_formed_head first test next) (are_formed_statements body) f in
      let formed_test = is_formed_if_any is_formed_condition test in
      let formed_next = is_formed_if_any is_formed_assignment next in
      let gs = and_parts (is_formed_if_any is_formed_assignment first) (formed_test && formed_next) fs.0 in
      let hs = and_parts formed_test formed_next gs.1 in
      also refl
      (also refl
      (optional_written is_formed_assignment assignment_lexemes change_written first gs.0 _
      (also refl (optional_written is_formed_condition (condition_lexemes false)
      (λ x g. condition_written false x g) test hs.0 _
      (also refl
      (optional_written is_formed_assignment assignment_lexemes change_written next hs.1 _
      (also refl (also refl (statements_written body fs.1 _ (also refl h))))))))))
  statement_written (s.Switch x xs other) f rest h =
      let fs = and_parts (is_formed_expression x)
      (are_formed_cases xs && is_formed_default other) f in
      let gs = and_parts (are_formed_cases xs) (is_formed_default other) fs.1 in
      also refl (also refl (value_written false x fs.0 _ (also refl (also refl
      (cases_written xs gs.0 _ (default_written other gs.1 _ (also refl h)))))))
  statement_written s.Break f rest h = also refl (also refl h)
  statement_written s.Continue f rest h = also refl (also refl h)
  statement_written s.Quit f rest h = also refl (also refl h)
  statement_written s.Rtrue f rest h = also refl (also refl h)
  statement_written s.Rfalse f rest h = also refl (also refl h)
  statement_written (s.Return x) f rest h =
      also refl (optional_written is_formed_expression (value_lexemes false)
      (λ y g. value_written false y g) x f _ (also refl h))
  statement_written s.NewLine f rest h = also refl (also refl h)
  statement_written (s.Print items) f rest h =
      also refl (items_written false items (and_parts (has_some items)
      (list_all is_formed_item items) f).1 _ (also refl h))
  statement_written (s.Read line words) f rest h =
      let fs = and_parts (is_name line) (is_name words) f in
      also refl (also fs.0 (also fs.1 (also refl h)))

  statements_written : (xs : Statements) → are_formed_statements xs ≡ true
      → Written (statements_lexemes xs)
  statements_written s.NoStatements f rest h = h
  statements_written (s.MoreStatements x xs) f rest h =
      let fs = and_parts (is_formed_statement x) (are_formed_statements xs) f in
      statement_written x fs.0 _ (statements_written xs fs.1 rest h)

  cases_written : (xs : Cases) → are_formed_cases xs ≡ true → Written (cases_lexemes xs)
  cases_written s.NoCases f rest h = h
  cases_written (s.MoreCases choices body xs) f rest h =
      let fs = and_parts (are_formed_choices choices)
      (are_formed_statements body && are_formed_cases xs) f in
      let gs = and_parts (are_formed_statements body) (are_formed_cases xs) fs.1 in
      let hs = and_parts (has_some choices) (list_all is_formed_choice choices) fs.0 in
      choices_written false choices hs.1 _ (also refl
      (statements_written body gs.0 _ (cases_written xs gs.1 rest h)))

  default_written : (x : Default) → is_formed_default x ≡ true → Written (default_lexemes x)
  default_written s.NoDefault f rest h = h
  default_written (s.SomeDefault body) f rest h =
      also refl (also refl (statements_written body f rest h))

-- ---- programs

names_written : (names : List (List ℕ)) → list_all is_name names ≡ true
    → Written (names_lexemes names)
names_written [] f rest h = h
names_written (name ∷ names) f rest h =
    let fs = and_parts (is_name name) (list_all is_name names) f in
    also fs.0 (names_written names fs.1 rest h)

entries_written : (xs : List Const) → list_all is_formed_constant xs ≡ true
    → Written (entries_lexemes xs)
entries_written [] f rest h = h
entries_written (x ∷ xs) f rest h =
    let fs = and_parts (is_formed_constant x) (list_all is_formed_constant xs) f in
    entry_written x fs.0 _ (entries_written xs fs.1 rest h)

first_value_written : (x : Const) → is_formed_constant x ≡ true → Written (first_value_lexemes x)
first_value_written x f rest h = also refl (constant_written x f rest h)

routine_written : (r : RoutineTree) → is_formed_routine r ≡ true → Written (routine_lexemes r)
routine_written r f rest h =
    let fs = and_parts (is_name r.name) (list_all is_name r.locals &&
    (leb (routine_depth r) DEPTH_LIMIT && are_formed_statements r.body)) f in
    let gs = and_parts (list_all is_name r.locals)
    (leb (routine_depth r) DEPTH_LIMIT && are_formed_statements r.body) fs.1 in
    let hs = and_parts (leb (routine_depth r) DEPTH_LIMIT) (are_formed_statements r.body) gs.1 in
    also refl (also fs.0 (names_written r.locals gs.0 _
    (also refl (statements_written r.body hs.1 _ (also refl (also refl h))))))

-- the lexemes of a well-formed directive can be written
directive_written : (x : DirectiveTree) → is_formed_directive x ≡ true
    → Written (directive_lexemes x)
directive_written (d.Constant name x) f rest h =
    let fs = and_parts (is_name name) (is_formed_constant x) f in
    also refl (also fs.0 (also refl (constant_written x fs.1 _ (also refl h))))
directive_written (d.Global name x) f rest h =
    let fs = and_parts (is_name name) (is_formed_if_any is_formed_constant x) f in
    also refl
    (also fs.0 (optional_written is_formed_constant first_value_lexemes first_value_written x fs.1 _
    (also refl h)))
directive_written (d.Array name words entries) f rest h =
    let fs = and_parts (is_name name) (are_formed_entries entries) f in
    also refl (also fs.0 (also refl (entries_written entries
    (and_parts (has_some entries) (list_all is_formed_constant entries) fs.1).1 _ (also refl h))))
directive_written (d.Routine r) f rest h = routine_written r f rest h

program_writable : (p : List DirectiveTree) → is_well_formed p ≡ true → Writable (program_lexemes p)
program_writable [] f = end
program_writable (x ∷ xs) f =
    let fs = and_parts (is_formed_directive x) (list_all is_formed_directive xs) f in
    directive_written x fs.0 (program_lexemes xs) (program_writable xs fs.1)

pub program_written : (p : List DirectiveTree) → is_well_formed p ≡ true
    → list_all is_writable (program_lexemes p) ≡ true
program_written p f = each_writable (program_writable p f)
