-- A printed statement is spelled by the grammar.
use Rattle.std.proofs.Common.{◌≡◌, ℕ, suc, ◌+◌, ◌*◌, ◌≤◌, true, false, ◌&&◌, List, [], ◌∷◌, Option, Some, None, refl, subst}
use Rattle.std.specs.Prelude.{max, option_map}
use Rattle.std.specs.List.{list_all}
use Rattle.std.proofs.lemmas.Bool.{and_parts}
use Rattle.inform_tree.specs.declared.values.Const.{Const}
use Rattle.inform_tree.specs.declared.values.Const.TheVariants as k
use Rattle.inform_tree.specs.Values as v
use Rattle.inform_tree.specs.Values.{Expression, Arguments}
use Rattle.inform_tree.specs.Conditions.{Condition}
use Rattle.inform_tree.specs.Statements as s
use Rattle.inform_tree.specs.Statements.{Statement, Statements, Cases, Default, Assignment, PrintItem, Choice}
use Rattle.inform_tree.specs.Words.{is_name}
use Rattle.inform_tree.specs.Depths.{expression_depth, arguments_depth, condition_depth, assignment_depth, item_depth, items_depth, optional_depth, head_depth, statement_depth, statements_depth, cases_depth, default_depth}
use Rattle.inform_tree.specs.Formed.{has_some, is_formed_if_any, is_formed_expression, are_formed_arguments, are_formed_both, is_formed_condition, is_formed_assignment, is_formed_item, are_formed_choices, is_formed_head, is_formed_statement, are_formed_statements, are_formed_cases, is_formed_default}
use Rattle.inform_lexemes.specs.declared.symbols.Symbol.TheVariants.{Semicolon, Colon, RightBrace, Assign}
use Rattle.inform_lexemes.specs.declared.keywords.Keyword.TheVariants as w
use Rattle.inform_lexemes.specs.Lexemes.{Lexeme, Sign, is_word}
use Rattle.inform_grammar.specs.Lexemes.{No}
use Rattle.inform_grammar.specs.Reading.{within_limit}
use Rattle.inform_grammar.specs.Trees.{condition, cases_tree}
use Rattle.inform_grammar.specs.Statements as g
use Rattle.inform_grammar.specs.Statements.{Change, set, set_entry, increment, decrement, ChangeIfAny, no_change, a_change, ConditionIfAny, no_condition, some_condition, Item, text, decimal, as_character, Items, last_item, one_more_item, single, range, Choices, last_choice, one_more_choice, empty, block, change, call, conditional, while_loop, do_loop, for_loop, switch, break, continue, quit, rtrue, rfalse, return, return_value, new_line, print, read, in_braces, ElseIfAny, no_else, an_else, last_statement, one_more_statement, last_case, one_more_case, DefaultIfAny, no_default, a_default}
use Rattle.inform_printer.specs.ValueLexemes.{constant_lexemes, value_lexemes}
use Rattle.inform_printer.specs.ConditionLexemes.{condition_lexemes}
use Rattle.inform_printer.specs.StatementLexemes.{assignment_lexemes, optional_lexemes, item_lexemes, items_lexemes, choice_lexemes, choices_lexemes, else_lexemes, statement_lexemes, statements_lexemes, cases_lexemes, default_lexemes}
use Rattle.inform_printer.proofs.Lists.{argument_list, arguments_back, guard_of, guard_back, guards_back, statement_list, statements_back, case_list, cases_back, default_list, default_back}
use Rattle.inform_printer.proofs.Depths.{left, right, opens_first, opens_second, body_inside, body_beside, value_inside, value_beside, value_here, first_body, other_body}
use Rattle.inform_printer.proofs.Ends.{ValueEnds, ConditionEnds, at_bracket, at_colon, at_comma, at_semicolon}
use Rattle.inform_printer.proofs.ShownValues.{constant_shown, value_shown, part_shown, arguments_shown}
use Rattle.inform_printer.proofs.ShownConditions.{condition_shown}

-- ---- changes, items of `print` and choices

-- a well-formed change is spelled as it is printed, where an expression may end after it
pub change_shown : (x : Assignment) → is_formed_assignment x ≡ true → (o : ℕ)
    → o + assignment_depth x ≤ 200 → (rest : List Lexeme) → ValueEnds rest
    → Change within_limit o x (assignment_lexemes x rest) rest
change_shown (s.Set name x) f o d rest e =
    set (value_shown x (and_parts (is_name name) (is_formed_expression x) f).1 o d rest e)
change_shown (s.SetEntry name words index x) f o d rest e =
    let fs = and_parts (is_name name) (are_formed_both index x) f in
    let gs = and_parts (is_formed_expression index) (is_formed_expression x) fs.1 in
    set_entry
    (part_shown index gs.0 o (left o (expression_depth index) (expression_depth x) d)
    (Sign Assign ∷ value_lexemes false x rest) refl)
    (value_shown x gs.1 o (right o (expression_depth index) (expression_depth x) d) rest e)
change_shown (s.Inc name) f o d rest e = increment
change_shown (s.Dec name) f o d rest e = decrement

pub change_shown_if_any : (x : Option Assignment) → is_formed_if_any is_formed_assignment x ≡ true
    → (o : ℕ) → o + optional_depth assignment_depth x ≤ 200
    → (rest : List Lexeme) → ValueEnds rest
    → ChangeIfAny within_limit o x (optional_lexemes assignment_lexemes x rest) rest
change_shown_if_any None f o d rest e = no_change
change_shown_if_any (Some x) f o d rest e = a_change (change_shown x f o d rest e)

pub condition_shown_if_any : (x : Option Condition) → is_formed_if_any is_formed_condition x ≡ true
    → (o : ℕ) → o + optional_depth condition_depth x ≤ 200
    → (rest : List Lexeme) → ConditionEnds rest
    → ConditionIfAny within_limit o (option_map guard_of x)
    (optional_lexemes (condition_lexemes false) x rest) rest
condition_shown_if_any None f o d rest e = no_condition
condition_shown_if_any (Some x) f o d rest e = some_condition (condition_shown x f o d rest e)

item_shown : (x : PrintItem) → is_formed_item x ≡ true → (o : ℕ) → within_limit o ≡ true
    → o + item_depth x ≤ 200 → (rest : List Lexeme) → ValueEnds rest
    → Item within_limit o x (item_lexemes x rest) rest
item_shown (s.Text bytes) f o h d rest e = text
item_shown (s.Value x) f o h d rest e = decimal (value_shown x f o d rest e)
item_shown (s.Char x) f o h d rest e = as_character h (value_shown x f o d rest e)

at_items : (xs : List PrintItem) (rest : List Lexeme) → ValueEnds rest
    → ValueEnds (items_lexemes true xs rest)
at_items [] rest e = e
at_items (x ∷ xs) rest e = at_comma _

items_shown : (xs : List PrintItem) → list_all is_formed_item xs ≡ true → (o : ℕ)
    → within_limit o ≡ true → o + items_depth xs ≤ 200
    → (rest : List Lexeme) → ValueEnds rest
    → Items within_limit o xs (items_lexemes true xs rest) rest
items_shown [] f o h d rest e = last_item
items_shown (x ∷ xs) f o h d rest e =
    let fs = and_parts (is_formed_item x) (list_all is_formed_item xs) f in
    one_more_item (item_shown x fs.0 o h (left o (item_depth x) (items_depth xs) d)
    (items_lexemes true xs rest) (at_items xs rest e))
    (items_shown xs fs.1 o h (right o (item_depth x) (items_depth xs) d) rest e)

choice_shown : (x : Const) (y : Option Const) (rest : List Lexeme) → No (is_word w.To) rest
    → g.Choice (x, y) (choice_lexemes (x, y) rest) rest
choice_shown x None rest h = single (constant_shown x rest) h
choice_shown x (Some y) rest h = range (constant_shown x _) (constant_shown y rest)

no_to : (xs : List Choice) (rest : List Lexeme)
    → No (is_word w.To) (choices_lexemes true xs (Sign Colon ∷ rest))
no_to [] rest = refl
no_to (x ∷ xs) rest = refl

choices_shown : (xs : List Choice) (rest : List Lexeme)
    → Choices xs (choices_lexemes true xs (Sign Colon ∷ rest)) (Sign Colon ∷ rest)
choices_shown [] rest = last_choice
choices_shown (x ∷ xs) rest =
    one_more_choice (choice_shown x.0 x.1 (choices_lexemes true xs (Sign Colon ∷ rest))
    (no_to xs rest)) (choices_shown xs rest)

-- ---- no `else` stands first

constant_no_else : (x : Const) (rest : List Lexeme) → No (is_word w.Else) (constant_lexemes x rest)
constant_no_else (k.Number n) rest = refl
constant_no_else (k.Char byte) rest = refl
constant_no_else (k.Name name) rest = refl
constant_no_else (k.Minus n) rest = refl

change_no_else : (x : Assignment) (rest : List Lexeme)
    → No (is_word w.Else) (assignment_lexemes x rest)
change_no_else (s.Set name x) rest = refl
change_no_else (s.SetEntry name words index x) rest = refl
change_no_else (s.Inc name) rest = refl
change_no_else (s.Dec name) rest = refl

-- no printed statement begins with `else`
statement_no_else : (x : Statement) (rest : List Lexeme)
    → No (is_word w.Else) (statement_lexemes x rest)
statement_no_else (s.Assign x) rest = change_no_else x _
statement_no_else s.Empty rest = refl
statement_no_else (s.Block body) rest = refl
statement_no_else (s.Call name xs) rest = refl
statement_no_else (s.If test body other) rest = refl
statement_no_else (s.While test body) rest = refl
statement_no_else (s.Do body test) rest = refl
statement_no_else (s.For first test next body) rest = refl
statement_no_else (s.Switch x xs other) rest = refl
statement_no_else s.Break rest = refl
statement_no_else s.Continue rest = refl
statement_no_else s.Quit rest = refl
statement_no_else s.Rtrue rest = refl
statement_no_else s.Rfalse rest = refl
statement_no_else (s.Return x) rest = refl
statement_no_else s.NewLine rest = refl
statement_no_else (s.Print items) rest = refl
statement_no_else (s.Read line words) rest = refl

statements_no_else : (xs : Statements) (rest : List Lexeme) → No (is_word w.Else) rest
    → No (is_word w.Else) (statements_lexemes xs rest)
statements_no_else s.NoStatements rest h = h
statements_no_else (s.MoreStatements x xs) rest h = statement_no_else x _

cases_no_else : (xs : Cases) (rest : List Lexeme) → No (is_word w.Else) rest
    → No (is_word w.Else) (cases_lexemes xs rest)
cases_no_else s.NoCases rest h = h
cases_no_else (s.MoreCases [] body xs) rest h = refl
cases_no_else (s.MoreCases (x ∷ choices) body xs) rest h = constant_no_else x.0 _

default_no_else : (x : Default) (rest : List Lexeme) → No (is_word w.Else) rest
    → No (is_word w.Else) (default_lexemes x rest)
default_no_else s.NoDefault rest h = h
default_no_else (s.SomeDefault body) rest h = refl

-- ---- the trees of lists

block_as : {o : ℕ} {ts rest : List Lexeme} (xs : Statements)
    → g.Statement within_limit o (s.Block (s.statements (statement_list xs))) ts rest
    → g.Statement within_limit o (s.Block xs) ts rest
block_as {o = o} {ts = ts} {rest = rest} xs d =
    subst (λ (ys : Statements). g.Statement within_limit o (s.Block ys) ts rest)
    (statements_back xs) d

call_as : {o : ℕ} {ts rest : List Lexeme} (name : List ℕ) (xs : Arguments)
    → g.Statement within_limit o (s.Call name (v.arguments (argument_list xs))) ts rest
    → g.Statement within_limit o (s.Call name xs) ts rest
call_as {o = o} {ts = ts} {rest = rest} name xs d =
    subst (λ (ys : Arguments). g.Statement within_limit o (s.Call name ys) ts rest)
    (arguments_back xs) d

-- what spells a conditional statement by the lists of its bodies spells it by its bodies
if_as : {o : ℕ} {ts rest : List Lexeme} (x : Condition) (xs ys : Statements)
    → g.Statement within_limit o (s.If (condition (guard_of x)) (s.statements (statement_list xs))
    (s.statements (statement_list ys))) ts rest
    → g.Statement within_limit o (s.If x xs ys) ts rest
if_as {o = o} {ts = ts} {rest = rest} x xs ys d =
    subst (λ (zs : Statements). g.Statement within_limit o (s.If x xs zs) ts rest)
    (statements_back ys)
    (subst (λ (zs : Statements). g.Statement within_limit o
    (s.If x zs (s.statements (statement_list ys))) ts rest) (statements_back xs)
    (subst (λ (z : Condition). g.Statement within_limit o
    (s.If z (s.statements (statement_list xs)) (s.statements (statement_list ys))) ts rest)
    (guard_back x) d))

while_as : {o : ℕ} {ts rest : List Lexeme} (x : Condition) (xs : Statements)
    → g.Statement within_limit o (s.While (condition (guard_of x))
    (s.statements (statement_list xs))) ts rest
    → g.Statement within_limit o (s.While x xs) ts rest
while_as {o = o} {ts = ts} {rest = rest} x xs d =
    subst (λ (zs : Statements). g.Statement within_limit o (s.While x zs) ts rest)
    (statements_back xs)
    (subst (λ (z : Condition). g.Statement within_limit o
    (s.While z (s.statements (statement_list xs))) ts rest) (guard_back x) d)

do_as : {o : ℕ} {ts rest : List Lexeme} (x : Condition) (xs : Statements)
    → g.Statement within_limit o (s.Do (s.statements (statement_list xs))
    (condition (guard_of x))) ts rest
    → g.Statement within_limit o (s.Do xs x) ts rest
do_as {o = o} {ts = ts} {rest = rest} x xs d =
    subst (λ (zs : Statements). g.Statement within_limit o (s.Do zs x) ts rest) (statements_back xs)
    (subst (λ (z : Condition). g.Statement within_limit o
    (s.Do (s.statements (statement_list xs)) z) ts rest) (guard_back x) d)

for_as : {o : ℕ} {ts rest : List Lexeme} (first : Option Assignment) (x : Option Condition)
    (next : Option Assignment) (xs : Statements)
    → g.Statement within_limit o (s.For first (option_map condition (option_map guard_of x)) next
    (s.statements (statement_list xs))) ts rest
    → g.Statement within_limit o (s.For first x next xs) ts rest
for_as {o = o} {ts = ts} {rest = rest} first x next xs d =
    subst (λ (zs : Statements). g.Statement within_limit o (s.For first x next zs) ts rest)
    (statements_back xs)
    (subst (λ (z : Option Condition). g.Statement within_limit o
    (s.For first z next (s.statements (statement_list xs))) ts rest) (guards_back x) d)

switch_as : {o : ℕ} {ts rest : List Lexeme} (x : Expression) (xs : Cases) (other : Default)
    → g.Statement within_limit o (s.Switch x (cases_tree (case_list xs))
    (s.default (default_list other))) ts rest
    → g.Statement within_limit o (s.Switch x xs other) ts rest
switch_as {o = o} {ts = ts} {rest = rest} x xs other d =
    subst (λ (z : Default). g.Statement within_limit o (s.Switch x xs z) ts rest)
    (default_back other)
    (subst (λ (zs : Cases). g.Statement within_limit o
    (s.Switch x zs (s.default (default_list other))) ts rest) (cases_back xs) d)

-- ---- statements

mutual
  -- a well-formed statement is spelled as it is printed, where no `else` follows
  pub statement_shown : (x : Statement) → is_formed_statement x ≡ true → (o : ℕ)
      → o + 2 * statement_depth x ≤ 200 → (rest : List Lexeme) → No (is_word w.Else) rest
      → g.Statement within_limit o x (statement_lexemes x rest) rest
  statement_shown s.Empty f o d rest e = empty
  statement_shown (s.Block body) f o d rest e =
      block_as body (block (opens_first o (statements_depth body) d)
      (statements_shown body f (suc o) (body_beside o (statements_depth body) d)
      (Sign RightBrace ∷ rest) refl))
  statement_shown (s.Assign x) f o d rest e =
      change (change_shown x f o (value_here o (assignment_depth x) d) (Sign Semicolon ∷ rest)
      (at_semicolon rest))
  statement_shown (s.Call name xs) f o d rest e =
      call_as name xs (call (opens_first o (arguments_depth xs) d)
      (arguments_shown xs (and_parts (is_name name) (are_formed_arguments xs) f).1 (suc o)
      (value_beside o (arguments_depth xs) d) (Sign Semicolon ∷ rest)))
  statement_shown (s.If test body other) f o d rest e =
      let a = condition_depth test in
      let b = statements_depth body in
      let c = statements_depth other in
      let fs = and_parts (is_formed_condition test)
      (are_formed_statements body && are_formed_statements other) f in
      let gs = and_parts (are_formed_statements body) (are_formed_statements other) fs.1 in
      let deep = body_inside o (max a (max b c)) d in
      let bodies = other_body (suc (suc o)) a (max b c) deep in
      if_as test body other (conditional (opens_first o (max a (max b c)) d)
      (opens_second o (max a (max b c)) d)
      (condition_shown test fs.0 (suc (suc o))
      (left (suc (suc o)) a (max b c) (value_inside o (max a (max b c)) d)) _ (at_bracket _))
      (in_braces (opens_second o (max a (max b c)) d)
      (statements_shown body gs.0 (suc (suc o)) (first_body (suc (suc o)) b c bodies)
      (Sign RightBrace ∷ _) refl))
      (else_shown other gs.1 o (opens_second o (max a (max b c)) d)
      (other_body (suc (suc o)) b c bodies) rest e))
  statement_shown (s.While test body) f o d rest e =
      let a = condition_depth test in
      let b = statements_depth body in
      let fs = and_parts (is_formed_condition test) (are_formed_statements body) f in
      while_as test body (while_loop (opens_first o (max a b) d) (opens_second o (max a b) d)
      (condition_shown test fs.0 (suc (suc o))
      (left (suc (suc o)) a b (value_inside o (max a b) d)) _ (at_bracket _))
      (in_braces (opens_second o (max a b) d)
      (statements_shown body fs.1 (suc (suc o))
      (other_body (suc (suc o)) a b (body_inside o (max a b) d)) (Sign RightBrace ∷ rest) refl)))
  statement_shown (s.Do body test) f o d rest e =
      let a = statements_depth body in
      let b = condition_depth test in
      let fs = and_parts (are_formed_statements body) (is_formed_condition test) f in
      do_as test body (do_loop (opens_first o (max a b) d) (opens_second o (max a b) d)
      (in_braces (opens_second o (max a b) d)
      (statements_shown body fs.0 (suc (suc o))
      (first_body (suc (suc o)) a b (body_inside o (max a b) d)) (Sign RightBrace ∷ _) refl))
      (condition_shown test fs.1 (suc (suc o))
      (right (suc (suc o)) a b (value_inside o (max a b) d)) _ (at_bracket _)))
  statement_shown (s.For first test next body) f o d rest e =
      let a = optional_depth assignment_depth first in
      let b = optional_depth condition_depth test in
      let c = optional_depth assignment_depth next in
      let h = head_depth first test next in
      let n = statements_depth body in
      let fs = and_parts (is_formed_head first test next) (are_formed_statements body) f in
      let formed_test = is_formed_if_any is_formed_condition test in
      let formed_next = is_formed_if_any is_formed_assignment next in
      let gs = and_parts (is_formed_if_any is_formed_assignment first) (formed_test && formed_next) fs.0 in
      let hs = and_parts formed_test formed_next gs.1 in
      let head = left (suc (suc o)) h n (value_inside o (max h n) d) in
      let later = right (suc (suc o)) a (max b c) head in
      for_as first test next body (for_loop (opens_first o (max h n) d) (opens_second o (max h n) d)
      (change_shown_if_any first gs.0 (suc (suc o)) (left (suc (suc o)) a (max b c) head) _
      (at_colon _).test.value)
      (condition_shown_if_any test hs.0 (suc (suc o)) (left (suc (suc o)) b c later) _ (at_colon _))
      (change_shown_if_any next hs.1 (suc (suc o)) (right (suc (suc o)) b c later) _
      (at_bracket _).test.value)
      (in_braces (opens_second o (max h n) d)
      (statements_shown body fs.1 (suc (suc o))
      (other_body (suc (suc o)) h n (body_inside o (max h n) d)) (Sign RightBrace ∷ rest) refl)))
  statement_shown (s.Switch x xs other) f o d rest e =
      let a = expression_depth x in
      let b = cases_depth xs in
      let c = default_depth other in
      let fs = and_parts (is_formed_expression x)
      (are_formed_cases xs && is_formed_default other) f in
      let gs = and_parts (are_formed_cases xs) (is_formed_default other) fs.1 in
      let bodies = other_body (suc o) a (max b c) (body_beside o (max a (max b c)) d) in
      switch_as x xs other (switch (opens_first o (max a (max b c)) d)
      (value_shown x fs.0 (suc o) (left (suc o) a (max b c) (value_beside o (max a (max b c)) d)) _
      (at_bracket _).test.value)
      (cases_shown xs gs.0 (suc o) (first_body (suc o) b c bodies)
      (default_lexemes other (Sign RightBrace ∷ rest)) (default_no_else other _ refl))
      (default_shown other gs.1 (suc o) (other_body (suc o) b c bodies)
      (Sign RightBrace ∷ rest) refl))
  statement_shown s.Break f o d rest e = break
  statement_shown s.Continue f o d rest e = continue
  statement_shown s.Quit f o d rest e = quit
  statement_shown s.Rtrue f o d rest e = rtrue
  statement_shown s.Rfalse f o d rest e = rfalse
  statement_shown (s.Return None) f o d rest e = return
  statement_shown (s.Return (Some x)) f o d rest e =
      return_value (value_shown x f o (value_here o (expression_depth x) d) (Sign Semicolon ∷ rest)
      (at_semicolon rest))
  statement_shown s.NewLine f o d rest e = new_line
  statement_shown (s.Print []) f o d rest e = absurd (cc)
  statement_shown (s.Print (x ∷ xs)) f o d rest e =
      let n = items_depth (x ∷ xs) in
      let fs = and_parts (has_some (x ∷ xs)) (list_all is_formed_item (x ∷ xs)) f in
      let gs = and_parts (is_formed_item x) (list_all is_formed_item xs) fs.1 in
      let h = opens_first o n d in
      let deep = value_here o n d in
      print (item_shown x gs.0 o h (left o (item_depth x) (items_depth xs) deep) _
      (at_items xs _ (at_semicolon rest)))
      (items_shown xs gs.1 o h (right o (item_depth x) (items_depth xs) deep)
      (Sign Semicolon ∷ rest) (at_semicolon rest))
  statement_shown (s.Read line words) f o d rest e = read

  -- what follows the body of an `if`
  else_shown : (xs : Statements) → are_formed_statements xs ≡ true → (o : ℕ)
      → within_limit (suc o) ≡ true → suc (suc o) + 2 * statements_depth xs ≤ 200
      → (rest : List Lexeme) → No (is_word w.Else) rest
      → ElseIfAny within_limit (suc o) (statement_list xs) (else_lexemes xs rest) rest
  else_shown s.NoStatements f o h d rest e = no_else e
  else_shown (s.MoreStatements x xs) f o h d rest e =
      let fs = and_parts (is_formed_statement x) (are_formed_statements xs) f in
      an_else (in_braces h (one_more_statement
      (statement_shown x fs.0 (suc (suc o)) (first_body (suc (suc o)) (statement_depth x)
      (statements_depth xs) d) (statements_lexemes xs (Sign RightBrace ∷ rest))
      (statements_no_else xs _ refl))
      (statements_shown xs fs.1 (suc (suc o)) (other_body (suc (suc o)) (statement_depth x)
      (statements_depth xs) d) (Sign RightBrace ∷ rest) refl)))

  pub statements_shown : (xs : Statements) → are_formed_statements xs ≡ true → (o : ℕ)
      → o + 2 * statements_depth xs ≤ 200 → (rest : List Lexeme) → No (is_word w.Else) rest
      → g.Statements within_limit o (statement_list xs) (statements_lexemes xs rest) rest
  statements_shown s.NoStatements f o d rest e = last_statement
  statements_shown (s.MoreStatements x xs) f o d rest e =
      let fs = and_parts (is_formed_statement x) (are_formed_statements xs) f in
      one_more_statement
      (statement_shown x fs.0 o (first_body o (statement_depth x) (statements_depth xs) d)
      (statements_lexemes xs rest) (statements_no_else xs rest e))
      (statements_shown xs fs.1 o (other_body o (statement_depth x) (statements_depth xs) d) rest e)

  -- well-formed cases of a switch are spelled as they are printed, where no `else` follows
  cases_shown : (xs : Cases) → are_formed_cases xs ≡ true → (o : ℕ) → o + 2 * cases_depth xs ≤ 200
      → (rest : List Lexeme) → No (is_word w.Else) rest
      → g.Cases within_limit o (case_list xs) (cases_lexemes xs rest) rest
  cases_shown s.NoCases f o d rest e = last_case
  cases_shown (s.MoreCases [] body xs) f o d rest e = absurd (cc)
  cases_shown (s.MoreCases (x ∷ choices) body xs) f o d rest e =
      let fs = and_parts (are_formed_choices (x ∷ choices))
      (are_formed_statements body && are_formed_cases xs) f in
      let gs = and_parts (are_formed_statements body) (are_formed_cases xs) fs.1 in
      one_more_case (choice_shown x.0 x.1 _ (no_to choices _)) (choices_shown choices _)
      (statements_shown body gs.0 o (first_body o (statements_depth body) (cases_depth xs) d)
      (cases_lexemes xs rest) (cases_no_else xs rest e))
      (cases_shown xs gs.1 o (other_body o (statements_depth body) (cases_depth xs) d) rest e)

  default_shown : (x : Default) → is_formed_default x ≡ true → (o : ℕ)
      → o + 2 * default_depth x ≤ 200 → (rest : List Lexeme) → No (is_word w.Else) rest
      → DefaultIfAny within_limit o (default_list x) (default_lexemes x rest) rest
  default_shown s.NoDefault f o d rest e = no_default
  default_shown (s.SomeDefault body) f o d rest e = a_default (statements_shown body f o d rest e)
