-- What is a sentence of lexemes that a text can say, and no deeper than it may be, is well formed.
use Rattle.std.proofs.Common.{◌≡◌, ◌≤◌, ℕ, suc, Bool, true, ◌&&◌, List, [], ◌∷◌, Option, Some, refl, ap, arith}
use Rattle.std.specs.Prelude.{nat_le, nat_lt, slice_get, option_map}
use Rattle.std.specs.List.{list_all}
use Rattle.std.proofs.lemmas.Bool.{and_parts, and_from}
use Rattle.std.proofs.lemmas.Bool.Decides.{nat_tests}
use Rattle.inform_tree.specs.declared.values.SumOp.{SumOp}
use Rattle.inform_tree.specs.declared.values.ProdOp.{ProdOp}
use Rattle.inform_tree.specs.declared.values.Const.{Const}
use Rattle.inform_tree.specs.declared.formed_programs.TheConstants.{DEPTH_LIMIT}
use Rattle.inform_tree.specs.Values as v
use Rattle.inform_tree.specs.Values.{Expression}
use Rattle.inform_tree.specs.Conditions as c
use Rattle.inform_tree.specs.Statements as s
use Rattle.inform_tree.specs.Statements.{Assignment, PrintItem}
use Rattle.inform_tree.specs.Programs as d
use Rattle.inform_tree.specs.Programs.{DirectiveTree, RoutineTree}
use Rattle.inform_tree.specs.Depths.{routine_depth}
use Rattle.inform_tree.specs.Words.{is_name}
use Rattle.inform_tree.specs.Formed.{has_two, is_formed_if_any, is_formed_constant, is_formed_expression, are_formed_arguments, are_formed_terms, are_formed_factors, is_formed_condition, are_formed_conditions, is_formed_assignment, is_formed_item, is_formed_choice, is_formed_statement, are_formed_statements, are_formed_cases, is_formed_default, is_formed_directive, is_well_formed}
use Rattle.inform_lexemes.specs.Lexemes.{Lexeme}
use Rattle.inform_lexer.specs.Written.{is_read}
use Rattle.inform_grammar.specs.Trees.{Guard, Join, AllOf, AnyOf, condition, joined, product_of, sum_of, cases_tree}
use Rattle.inform_grammar.specs.Values as gv
use Rattle.inform_grammar.specs.Values.{Constant, Entry, Primary, Arguments, FurtherArguments, Unary, Factors, Product, Terms, Value}
use Rattle.inform_grammar.specs.Conditions as gc
use Rattle.inform_grammar.specs.Conditions.{Test, Members, Condition}
use Rattle.inform_grammar.specs.Statements as gs
use Rattle.inform_grammar.specs.Statements.{Change, ChangeIfAny, ConditionIfAny, Item, Items, Choice, Choices, Statement, Body, ElseIfAny, Statements, Cases, DefaultIfAny}
use Rattle.inform_lexer.specs.Spans.{lexemes}
use Rattle.inform_lexer.specs.Laws.{TokensAreWritable}
use Rattle.inform_names.specs.Laws.{RoutinesAreShallow}
use Rattle.inform_reader.specs.Laws.{ProgramsAreWellFormed}
use Rattle.inform_grammar.specs.Sentences as gp
use Rattle.inform_grammar.specs.Sentences.{Entries, Names, Directive, Sentence}

-- each of these lexemes can be said
data Said : List Lexeme → Type 0 where
  end : Said []
  also : {x : Lexeme} {xs : List Lexeme} → is_read x ≡ true → Said xs → Said (x ∷ xs)

all_said : (xs : List Lexeme) → list_all is_read xs ≡ true → Said xs
all_said [] h = end
all_said (x ∷ xs) h = let hs = and_parts (is_read x) (list_all is_read xs) h in also hs.0 (all_said xs hs.1)

later : {x : Lexeme} {xs : List Lexeme} → Said (x ∷ xs) → Said xs
later (also f h) = h

-- a part is formed, and the lexemes after it can be said
abbrev Forms : Bool → List Lexeme → Type 0
Forms formed rest = (formed ≡ true) × Said rest

both : {a b : Bool} → a ≡ true → b ≡ true → (a && b) ≡ true
both {a} {b} f g = and_from a b f g

some_is : (n : ℕ) → nat_lt 0 (suc n) ≡ true
some_is n = grind (arith, nat_tests)

-- ---- constants and expressions

constant_formed : {x : Const} {ts rest : List Lexeme} → Constant x ts rest → Said ts → Forms (is_formed_constant x) rest
constant_formed gv.a_number (also f h) = (f, h)
constant_formed gv.a_character (also f h) = (f, h)
constant_formed gv.a_constant (also f h) = (f, h)
constant_formed gv.below_zero (also e (also f h)) = (f, h)

entry_formed : {room : ℕ → Bool} {o : ℕ} {x : Const} {ts rest : List Lexeme} → Entry room o x ts rest → Said ts → Forms (is_formed_constant x) rest
entry_formed gv.entry_number (also f h) = (f, h)
entry_formed gv.entry_character (also f h) = (f, h)
entry_formed gv.entry_constant (also f h) = (f, h)
entry_formed (gv.entry_below_zero r) (also d (also e (also f (also g h)))) = (f, h)

product_is : (x : Expression) (xs : List (ProdOp × Expression)) → is_formed_expression x ≡ true → are_formed_factors (v.factors xs) ≡ true
    → is_formed_expression (product_of x xs) ≡ true
product_is x [] f g = f
product_is x (y ∷ ys) f g = both f (both refl g)

sum_is : (x : Expression) (xs : List (SumOp × Expression)) → is_formed_expression x ≡ true → are_formed_terms (v.terms xs) ≡ true
    → is_formed_expression (sum_of x xs) ≡ true
sum_is x [] f g = f
sum_is x (y ∷ ys) f g = both f (both refl g)

mutual
  primary_formed : {room : ℕ → Bool} {o : ℕ} {x : Expression} {ts rest : List Lexeme} → Primary room o x ts rest → Said ts → Forms (is_formed_expression x) rest
  primary_formed gv.number (also f h) = (f, h)
  primary_formed gv.character (also f h) = (f, h)
  primary_formed (gv.named _) (also f h) = (f, h)
  primary_formed (gv.called r xs) (also f (also g h)) = let a = arguments_formed xs h in (both f a.0, a.1)
  primary_formed (gv.random r x) (also f (also g h)) = let a = value_formed x h in (a.0, later a.1)
  primary_formed (gv.bracketed r x) (also f h) = let a = value_formed x h in (a.0, later a.1)

  arguments_formed : {room : ℕ → Bool} {o : ℕ} {xs : List Expression} {ts rest : List Lexeme} → Arguments room o xs ts rest → Said ts
      → Forms (are_formed_arguments (v.arguments xs)) rest
  arguments_formed gv.no_arguments (also f h) = (refl, h)
  arguments_formed (gv.some_arguments x xs) h =
      let a = value_formed x h in
      let b = further_formed xs a.1 in
      (both a.0 b.0, later b.1)

  further_formed : {room : ℕ → Bool} {o : ℕ} {xs : List Expression} {ts rest : List Lexeme} → FurtherArguments room o xs ts rest → Said ts
      → Forms (are_formed_arguments (v.arguments xs)) rest
  further_formed gv.last_argument h = (refl, h)
  further_formed (gv.one_more_argument x xs) (also f h) =
      let a = value_formed x h in
      let b = further_formed xs a.1 in
      (both a.0 b.0, b.1)

  unary_formed : {room : ℕ → Bool} {o : ℕ} {x : Expression} {ts rest : List Lexeme} → Unary room o x ts rest → Said ts → Forms (is_formed_expression x) rest
  unary_formed (gv.negative x) (also f h) = primary_formed x h
  unary_formed (gv.indexed x) (also f (also g h)) = let a = primary_formed x h in (both f a.0, a.1)
  unary_formed (gv.operand _ x) h = primary_formed x h

  factors_formed : {room : ℕ → Bool} {o : ℕ} {xs : List (ProdOp × Expression)} {ts rest : List Lexeme} → Factors room o xs ts rest → Said ts
      → Forms (are_formed_factors (v.factors xs)) rest
  factors_formed (gv.no_factor _) h = (refl, h)
  factors_formed (gv.one_more_factor x xs) (also f h) =
      let a = unary_formed x h in
      let b = factors_formed xs a.1 in
      (both a.0 b.0, b.1)

  product_formed : {room : ℕ → Bool} {o : ℕ} {x : Expression} {ts rest : List Lexeme} → Product room o x ts rest → Said ts → Forms (is_formed_expression x) rest
  product_formed (gv.a_product {x = x} {xs = xs} first more) h =
      let a = unary_formed first h in
      let b = factors_formed more a.1 in
      (product_is x xs a.0 b.0, b.1)

  terms_formed : {room : ℕ → Bool} {o : ℕ} {xs : List (SumOp × Expression)} {ts rest : List Lexeme} → Terms room o xs ts rest → Said ts
      → Forms (are_formed_terms (v.terms xs)) rest
  terms_formed (gv.no_term _) h = (refl, h)
  terms_formed (gv.one_more_term x xs) (also f h) =
      let a = product_formed x h in
      let b = terms_formed xs a.1 in
      (both a.0 b.0, b.1)

  value_formed : {room : ℕ → Bool} {o : ℕ} {x : Expression} {ts rest : List Lexeme} → Value room o x ts rest → Said ts → Forms (is_formed_expression x) rest
  value_formed (gv.a_value {x = x} {xs = xs} first more) h =
      let a = product_formed first h in
      let b = terms_formed more a.1 in
      (sum_is x xs a.0 b.0, b.1)

-- ---- conditions

joined_is : (join : Join) (x : c.Condition) (xs : List c.Condition) → has_two (c.MoreConditions x (c.conditions xs)) ≡ true
    → is_formed_condition x ≡ true → are_formed_conditions (c.conditions xs) ≡ true → is_formed_condition (joined join (x ∷ xs)) ≡ true
joined_is AllOf x xs two f g = both two (both f g)
joined_is AnyOf x xs two f g = both two (both f g)

are_two : {room : ℕ → Bool} {o : ℕ} {join : Join} {xs : List c.Condition} {ts rest : List Lexeme} (x : c.Condition)
    → Members room o join xs ts rest → has_two (c.MoreConditions x (c.conditions xs)) ≡ true
are_two x (gc.last_member test _) = refl
are_two x (gc.one_more_member test more) = refl

mutual
  test_formed : {room : ℕ → Bool} {o : ℕ} {x : Guard} {ts rest : List Lexeme} → Test room o x ts rest → Said ts → Forms (is_formed_condition (condition x)) rest
  test_formed (gc.negated r x) (also f (also g h)) = let a = condition_formed x h in (a.0, later a.1)
  test_formed (gc.in_brackets r x) (also f h) = let a = condition_formed x h in (a.0, later a.1)
  test_formed (gc.by_itself x _) h = value_formed x h
  test_formed (gc.compared x y) h =
      let a = value_formed x h in
      let b = value_formed y (later a.1) in
      (both a.0 b.0, b.1)

  members_formed : {room : ℕ → Bool} {o : ℕ} {join : Join} {xs : List c.Condition} {ts rest : List Lexeme} → Members room o join xs ts rest → Said ts
      → Forms (are_formed_conditions (c.conditions xs)) rest
  members_formed (gc.last_member x _) (also f h) = let a = test_formed x h in (both a.0 refl, a.1)
  members_formed (gc.one_more_member x xs) (also f h) =
      let a = test_formed x h in
      let b = members_formed xs a.1 in
      (both a.0 b.0, b.1)

  condition_formed : {room : ℕ → Bool} {o : ℕ} {x : Guard} {ts rest : List Lexeme} → Condition room o x ts rest → Said ts
      → Forms (is_formed_condition (condition x)) rest
  condition_formed (gc.a_test x _) h = test_formed x h
  condition_formed (gc.a_chain {join = join} {x = x} {xs = xs} first more) h =
      let a = test_formed first h in
      let b = members_formed more a.1 in
      (joined_is join (condition x) xs (are_two (condition x) more) a.0 b.0, b.1)

-- ---- changes, items and choices

change_formed : {room : ℕ → Bool} {o : ℕ} {x : Assignment} {ts rest : List Lexeme} → Change room o x ts rest → Said ts → Forms (is_formed_assignment x) rest
change_formed (gs.set x) (also f (also g h)) = let a = value_formed x h in (both f a.0, a.1)
change_formed (gs.set_entry i x) (also f (also g h)) =
    let a = primary_formed i h in
    let b = value_formed x (later a.1) in
    (both f (both a.0 b.0), b.1)
change_formed gs.increment (also f (also g h)) = (f, h)
change_formed gs.decrement (also f (also g h)) = (f, h)

change_if_any : {room : ℕ → Bool} {o : ℕ} {x : Option Assignment} {ts rest : List Lexeme} → ChangeIfAny room o x ts rest → Said ts
    → Forms (is_formed_if_any is_formed_assignment x) rest
change_if_any gs.no_change h = (refl, h)
change_if_any (gs.a_change x) h = change_formed x h

condition_if_any : {room : ℕ → Bool} {o : ℕ} {x : Option Guard} {ts rest : List Lexeme} → ConditionIfAny room o x ts rest → Said ts
    → Forms (is_formed_if_any is_formed_condition (option_map condition x)) rest
condition_if_any gs.no_condition h = (refl, h)
condition_if_any (gs.some_condition x) h = condition_formed x h

item_formed : {room : ℕ → Bool} {o : ℕ} {x : PrintItem} {ts rest : List Lexeme} → Item room o x ts rest → Said ts → Forms (is_formed_item x) rest
item_formed gs.text (also f h) = (f, h)
item_formed (gs.decimal x) h = value_formed x h
item_formed (gs.as_character r x) (also d (also e (also f h))) = value_formed x h

items_formed : {room : ℕ → Bool} {o : ℕ} {xs : List PrintItem} {ts rest : List Lexeme} → Items room o xs ts rest → Said ts → Forms (list_all is_formed_item xs) rest
items_formed gs.last_item h = (refl, h)
items_formed (gs.one_more_item x xs) (also f h) =
    let a = item_formed x h in
    let b = items_formed xs a.1 in
    (both a.0 b.0, b.1)

choice_formed : {x : s.Choice} {ts rest : List Lexeme} → Choice x ts rest → Said ts → Forms (is_formed_choice x) rest
choice_formed (gs.single x _) h = let a = constant_formed x h in (both a.0 refl, a.1)
choice_formed (gs.range x y) h =
    let a = constant_formed x h in
    let b = constant_formed y (later a.1) in
    (both a.0 b.0, b.1)

choices_formed : {xs : List s.Choice} {ts rest : List Lexeme} → Choices xs ts rest → Said ts → Forms (list_all is_formed_choice xs) rest
choices_formed gs.last_choice h = (refl, h)
choices_formed (gs.one_more_choice x xs) (also f h) =
    let a = choice_formed x h in
    let b = choices_formed xs a.1 in
    (both a.0 b.0, b.1)

-- ---- statements

mutual
  -- a statement is well formed if a text can say the lexemes that spell it
  statement_formed : {room : ℕ → Bool} {o : ℕ} {x : s.Statement} {ts rest : List Lexeme} → Statement room o x ts rest → Said ts → Forms (is_formed_statement x) rest
  statement_formed gs.empty (also f h) = (refl, h)
  statement_formed (gs.block r xs) (also f h) = let a = statements_formed xs h in (a.0, later a.1)
  statement_formed (gs.change x) h = let a = change_formed x h in (a.0, later a.1)
  statement_formed (gs.call r xs) (also f (also g h)) = let a = arguments_formed xs h in (both f a.0, later a.1)
  statement_formed (gs.conditional r q x xs ys) (also f (also g h)) =
      let a = condition_formed x h in
      let b = body_formed xs (later a.1) in
      let d = else_formed ys b.1 in
      (both a.0 (both b.0 d.0), d.1)
  statement_formed (gs.while_loop r q x xs) (also f (also g h)) =
      let a = condition_formed x h in
      let b = body_formed xs (later a.1) in
      (both a.0 b.0, b.1)
  statement_formed (gs.do_loop r q xs x) (also f h) =
      let a = body_formed xs h in
      let b = condition_formed x (later (later a.1)) in
      (both a.0 b.0, later (later b.1))
  statement_formed (gs.for_loop r q first x last xs) (also f (also g h)) =
      let a = change_if_any first h in
      let b = condition_if_any x (later a.1) in
      let d = change_if_any last (later b.1) in
      let e = body_formed xs (later d.1) in
      (both (both a.0 (both b.0 d.0)) e.0, e.1)
  statement_formed (gs.switch r x xs other) (also f (also g h)) =
      let a = value_formed x h in
      let b = cases_formed xs (later (later a.1)) in
      let d = default_formed other b.1 in
      (both a.0 (both b.0 d.0), later d.1)
  statement_formed gs.break (also f (also g h)) = (refl, h)
  statement_formed gs.continue (also f (also g h)) = (refl, h)
  statement_formed gs.quit (also f (also g h)) = (refl, h)
  statement_formed gs.rtrue (also f (also g h)) = (refl, h)
  statement_formed gs.rfalse (also f (also g h)) = (refl, h)
  statement_formed gs.return (also f (also g h)) = (refl, h)
  statement_formed (gs.return_value x) (also f h) = let a = value_formed x h in (a.0, later a.1)
  statement_formed gs.new_line (also f (also g h)) = (refl, h)
  statement_formed (gs.print x xs) (also f h) =
      let a = item_formed x h in
      let b = items_formed xs a.1 in
      (both (some_is _) (both a.0 b.0), later b.1)
  statement_formed gs.read (also d (also e (also f (also g h)))) = (both e f, h)

  body_formed : {room : ℕ → Bool} {o : ℕ} {xs : List s.Statement} {ts rest : List Lexeme} → Body room o xs ts rest → Said ts
      → Forms (are_formed_statements (s.statements xs)) rest
  body_formed (gs.in_braces r xs) (also f h) = let a = statements_formed xs h in (a.0, later a.1)
  body_formed (gs.just_one _ x) h = let a = statement_formed x h in (both a.0 refl, a.1)

  else_formed : {room : ℕ → Bool} {o : ℕ} {xs : List s.Statement} {ts rest : List Lexeme} → ElseIfAny room o xs ts rest → Said ts
      → Forms (are_formed_statements (s.statements xs)) rest
  else_formed (gs.no_else _) h = (refl, h)
  else_formed (gs.an_else xs) (also f h) = body_formed xs h

  statements_formed : {room : ℕ → Bool} {o : ℕ} {xs : List s.Statement} {ts rest : List Lexeme} → Statements room o xs ts rest → Said ts
      → Forms (are_formed_statements (s.statements xs)) rest
  statements_formed gs.last_statement h = (refl, h)
  statements_formed (gs.one_more_statement x xs) h =
      let a = statement_formed x h in
      let b = statements_formed xs a.1 in
      (both a.0 b.0, b.1)

  cases_formed : {room : ℕ → Bool} {o : ℕ} {xs : List (List s.Choice × List s.Statement)} {ts rest : List Lexeme} → Cases room o xs ts rest → Said ts
      → Forms (are_formed_cases (cases_tree xs)) rest
  cases_formed gs.last_case h = (refl, h)
  cases_formed (gs.one_more_case x xs ys more) h =
      let a = choice_formed x h in
      let b = choices_formed xs a.1 in
      let d = statements_formed ys (later b.1) in
      let e = cases_formed more d.1 in
      (both (both (some_is _) (both a.0 b.0)) (both d.0 e.0), e.1)

  default_formed : {room : ℕ → Bool} {o : ℕ} {other : Option (List s.Statement)} {ts rest : List Lexeme} → DefaultIfAny room o other ts rest → Said ts
      → Forms (is_formed_default (s.default other)) rest
  default_formed gs.no_default h = (refl, h)
  default_formed (gs.a_default xs) (also f (also g h)) = statements_formed xs h

-- ---- programs

entries_formed : {room : ℕ → Bool} {o : ℕ} {xs : List Const} {ts rest : List Lexeme} → Entries room o xs ts rest → Said ts → Forms (list_all is_formed_constant xs) rest
entries_formed gp.last_entry h = (refl, h)
entries_formed (gp.one_more_entry x xs) h =
    let a = entry_formed x h in
    let b = entries_formed xs a.1 in
    (both a.0 b.0, b.1)

names_formed : {xs : List (List ℕ)} {ts rest : List Lexeme} → Names xs ts rest → Said ts → Forms (list_all is_name xs) rest
names_formed gp.last_name h = (refl, h)
names_formed (gp.one_more_name xs) (also f h) = let a = names_formed xs h in (both f a.0, a.1)

-- a routine is no deeper than it may be
abbrev IsShallow : DirectiveTree → Type 0
IsShallow x = (r : RoutineTree) → x ≡ d.Routine r → routine_depth r ≤ DEPTH_LIMIT

shallow_is : (n : ℕ) → n ≤ DEPTH_LIMIT → nat_le n DEPTH_LIMIT ≡ true
shallow_is n h = grind (arith, nat_tests, h)

-- a directive that isn't too deep is well formed if a text can say the lexemes that spell it
directive_formed : {room : ℕ → Bool} {x : DirectiveTree} {ts rest : List Lexeme} → Directive room x ts rest → Said ts → IsShallow x
    → Forms (is_formed_directive x) rest
directive_formed (gp.constant x) (also d (also e (also f h))) shallow = let a = constant_formed x h in (both e a.0, later a.1)
directive_formed gp.global (also d (also e (also f h))) shallow = (both e refl, h)
directive_formed (gp.global_with x) (also d (also e (also f h))) shallow = let a = constant_formed x h in (both e a.0, later a.1)
directive_formed (gp.array x xs) (also d (also e (also f h))) shallow =
    let a = entry_formed x h in
    let b = entries_formed xs a.1 in
    (both e (both (some_is _) (both a.0 b.0)), later b.1)
directive_formed (gp.routine locals xs) (also e (also f h)) shallow =
    let a = names_formed locals h in
    let b = statements_formed xs (later a.1) in
    (both f (both a.0 (both (shallow_is _ (shallow _ refl)) b.0)), later (later b.1))

sentence_formed : {room : ℕ → Bool} {p : List DirectiveTree} {ts : List Lexeme} → Sentence room p ts → Said ts
    → ((at : ℕ) (r : RoutineTree) → slice_get p at ≡ Some (d.Routine r) → routine_depth r ≤ DEPTH_LIMIT) → is_well_formed p ≡ true
sentence_formed gp.no_more h shallow = refl
sentence_formed (gp.one_more x xs) h shallow =
    let a = directive_formed x h (λ r is. shallow 0 r (ap Some is)) in
    both a.0 (sentence_formed xs a.1 (λ at. shallow (suc at)))

-- ---- programs that are read and accepted

pub well_formed : TokensAreWritable → RoutinesAreShallow → ProgramsAreWellFormed
well_formed writable shallow width bytes p is =
    sentence_formed is.text.says (all_said (lexemes bytes is.text.tokens) (writable bytes is.text.tokens is.text.spelled))
    (λ at r there. shallow width p at r is.accepted there)
