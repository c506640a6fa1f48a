-- A printed expression is spelled by the grammar.
use Rattle.std.proofs.Common.{◌≡◌, ℕ, suc, ◌+◌, ◌≤◌, true, false, List, [], ◌∷◌, refl, subst}
use Rattle.std.specs.Prelude.{max}
use Rattle.std.proofs.lemmas.Bool.{and_parts}
use Rattle.inform_tree.specs.declared.values.Const.{Const}
use Rattle.inform_tree.specs.declared.values.Const.TheVariants as k
use Rattle.inform_tree.specs.Values as v
use Rattle.inform_tree.specs.Values.{Expression, Arguments, Terms, Factors}
use Rattle.inform_tree.specs.Words.{is_name}
use Rattle.inform_tree.specs.Depths.{expression_depth, arguments_depth, terms_depth, factors_depth}
use Rattle.inform_tree.specs.Formed.{has_terms, has_factors, is_formed_expression, are_formed_arguments, are_formed_terms, are_formed_factors, is_formed_sum, is_formed_product}
use Rattle.inform_lexemes.specs.declared.symbols.Symbol.TheVariants.{LeftRound, RightRound}
use Rattle.inform_lexemes.specs.Lexemes.{Lexeme, Name, Sign, is_sign}
use Rattle.inform_grammar.specs.Lexemes.{No, is_factor_sign}
use Rattle.inform_grammar.specs.Reading.{within_limit}
use Rattle.inform_grammar.specs.Values as g
use Rattle.inform_grammar.specs.Values.{Constant, a_number, a_character, a_constant, below_zero, Entry, entry_number, entry_character, entry_constant, entry_below_zero, Primary, number, character, named, called, random, no_arguments, some_arguments, FurtherArguments, last_argument, one_more_argument, Unary, negative, indexed, operand, no_factor, one_more_factor, Product, a_product, no_term, one_more_term, Value, a_value}
use Rattle.inform_printer.specs.ValueLexemes.{constant_lexemes, entry_lexemes, value_lexemes, argument_lexemes, term_lexemes, factor_lexemes}
use Rattle.inform_printer.proofs.Lists.{argument_list, term_list, factor_list, arguments_back, sum_back, product_back}
use Rattle.inform_printer.proofs.Depths.{opens, inside, beside, left, right}
use Rattle.inform_printer.proofs.Ends.{OperandEnds, ProductEnds, ValueEnds, at_bracket, at_comma, at_terms, at_factors, part_is_no_entry}

-- ---- constants

pub constant_shown : (x : Const) (rest : List Lexeme) → Constant x (constant_lexemes x rest) rest
constant_shown (k.Number n) rest = a_number
constant_shown (k.Char byte) rest = a_character
constant_shown (k.Name name) rest = a_constant
constant_shown (k.Minus n) rest = below_zero

pub entry_shown : (x : Const) (rest : List Lexeme)
    → Entry within_limit 0 x (entry_lexemes x rest) rest
entry_shown (k.Number n) rest = entry_number
entry_shown (k.Char byte) rest = entry_character
entry_shown (k.Name name) rest = entry_constant
entry_shown (k.Minus n) rest = entry_below_zero refl

-- ---- chains

-- one operand is a product and an expression
product_alone : {o : ℕ} {x : Expression} {ts rest : List Lexeme} → Unary within_limit o x ts rest
    → No is_factor_sign rest → Product within_limit o x ts rest
product_alone u h = a_product {xs = []} u (no_factor h)

value_alone : {o : ℕ} {x : Expression} {ts rest : List Lexeme} → Unary within_limit o x ts rest
    → ValueEnds rest → Value within_limit o x ts rest
value_alone u e = a_value {xs = []} (product_alone u e.product.factor) (no_term e.term)

-- a part of a chain
part_alone : {o : ℕ} (x : Expression) (rest : List Lexeme) → OperandEnds rest
    → Primary within_limit o x (value_lexemes true x rest) rest
    → Unary within_limit o x (value_lexemes true x rest) rest
part_alone x rest e p = operand (part_is_no_entry x rest e.arrow) p

-- a sum is spelled as it is printed, if its first operand and its terms are
sum_value : {o : ℕ} (first : Expression) (xs : Terms) (rest : List Lexeme) → has_terms xs ≡ true
    → ValueEnds rest
    → Primary within_limit o first (value_lexemes true first (term_lexemes xs rest))
    (term_lexemes xs rest)
    → g.Terms within_limit o (term_list xs) (term_lexemes xs rest) rest
    → Value within_limit o (v.Sum first xs) (value_lexemes true first (term_lexemes xs rest)) rest
sum_value {o = o} first xs rest some e p ds =
    let ts = term_lexemes xs rest in
    let after = at_terms xs rest e in
    subst (λ (x : Expression). Value within_limit o x (value_lexemes true first ts) rest)
    (sum_back first xs some)
    (a_value {xs = term_list xs} (product_alone
    (part_alone first ts after.operand p) after.factor) ds)

-- a product is spelled as it is printed, if its first operand and its factors are
product_value : {o : ℕ} (first : Expression) (xs : Factors) (rest : List Lexeme)
    → has_factors xs ≡ true → ValueEnds rest
    → Primary within_limit o first (value_lexemes true first (factor_lexemes xs rest))
    (factor_lexemes xs rest)
    → g.Factors within_limit o (factor_list xs) (factor_lexemes xs rest) rest
    → Value within_limit o (v.Product first xs)
    (value_lexemes true first (factor_lexemes xs rest)) rest
product_value {o = o} first xs rest some e p ds =
    let ts = factor_lexemes xs rest in
    subst (λ (x : Expression). Value within_limit o x (value_lexemes true first ts) rest)
    (product_back first xs some)
    (a_value {xs = []} (a_product {xs = factor_list xs}
    (part_alone first ts (at_factors xs rest e.product) p) ds) (no_term e.term))

-- ---- expressions

-- a call, from its arguments
pub call_shown : {rest : List Lexeme} (name : List ℕ) (xs : Arguments) (o : ℕ)
    → within_limit o ≡ true
    → g.Arguments within_limit (suc o) (argument_list xs) (argument_lexemes false xs rest) rest
    → Primary within_limit o (v.Call name xs)
    (Name name ∷ Sign LeftRound ∷ argument_lexemes false xs rest) rest
call_shown {rest = rest} name xs o h ds =
    subst (λ (ys : Arguments). Primary within_limit o (v.Call name ys)
    (Name name ∷ Sign LeftRound ∷ argument_lexemes false xs rest) rest)
    (arguments_back xs) (called h ds)

-- after an argument stands a comma or the closing bracket
at_arguments : (xs : Arguments) (rest : List Lexeme) → ValueEnds (argument_lexemes true xs rest)
at_arguments v.NoArguments rest = (at_bracket rest).test.value
at_arguments (v.MoreArguments x xs) rest = at_comma _

mutual
  -- a well-formed expression is spelled as it is printed, where an expression may end after it
  pub value_shown : (x : Expression) → is_formed_expression x ≡ true → (o : ℕ)
      → o + expression_depth x ≤ 200 → (rest : List Lexeme) → ValueEnds rest
      → Value within_limit o x (value_lexemes false x rest) rest
  value_shown (v.Number n) f o d rest e = value_alone (operand refl number) e
  value_shown (v.Char byte) f o d rest e = value_alone (operand refl character) e
  value_shown (v.Name name) f o d rest e =
      value_alone (part_alone (v.Name name) rest e.product.operand
      (named e.product.operand.bracket)) e
  value_shown (v.Entry name words index) f o d rest e =
      let fs = and_parts (is_name name) (is_formed_expression index) f in
      value_alone (indexed (part_shown index fs.1 o
      (beside o (expression_depth index) d) rest e.product.operand.bracket)) e
  value_shown (v.Call name xs) f o d rest e =
      let fs = and_parts (is_name name) (are_formed_arguments xs) f in
      value_alone (operand refl (call_shown name xs o (opens o (arguments_depth xs) d)
      (arguments_shown xs fs.1 (suc o) (inside o (arguments_depth xs) d) rest))) e
  value_shown (v.Random limit) f o d rest e =
      value_alone (operand refl (random (opens o (expression_depth limit) d)
      (value_shown limit f (suc o) (inside o (expression_depth limit) d) (Sign RightRound ∷ rest)
      (at_bracket rest).test.value))) e
  value_shown (v.Neg x) f o d rest e =
      value_alone (negative (part_shown x f o (beside o
      (expression_depth x) d) rest e.product.operand.bracket)) e
  value_shown (v.Sum first xs) f o d rest e =
      let fs = and_parts (is_formed_expression first) (is_formed_sum xs) f in
      let gs = and_parts (has_terms xs) (are_formed_terms xs) fs.1 in
      let deep = beside o (max (expression_depth first) (terms_depth xs)) d in
      sum_value first xs rest gs.0 e
      (part_shown first fs.0 o (left o (expression_depth first) (terms_depth xs) deep)
      (term_lexemes xs rest) (at_terms xs rest e).operand.bracket)
      (terms_shown xs gs.1 o (right o (expression_depth first) (terms_depth xs) deep) rest e)
  value_shown (v.Product first xs) f o d rest e =
      let fs = and_parts (is_formed_expression first) (is_formed_product xs) f in
      let gs = and_parts (has_factors xs) (are_formed_factors xs) fs.1 in
      let deep = beside o (max (expression_depth first) (factors_depth xs)) d in
      product_value first xs rest gs.0 e
      (part_shown first fs.0 o (left o (expression_depth first) (factors_depth xs) deep)
      (factor_lexemes xs rest) (at_factors xs rest e.product).bracket)
      (factors_shown xs gs.1 o (right o (expression_depth first)
      (factors_depth xs) deep) rest e.product)

  -- a well-formed expression is spelled as it is printed as an operand, where no bracket follows
  pub part_shown : (x : Expression) → is_formed_expression x ≡ true → (o : ℕ)
      → o + expression_depth x ≤ 200 → (rest : List Lexeme) → No (is_sign LeftRound) rest
      → Primary within_limit o x (value_lexemes true x rest) rest
  part_shown (v.Number n) f o d rest e = number
  part_shown (v.Char byte) f o d rest e = character
  part_shown (v.Name name) f o d rest e = named e
  part_shown (v.Entry name words index) f o d rest e =
      let fs = and_parts (is_name name) (is_formed_expression index) f in
      let b = (at_bracket rest).test.value in
      g.bracketed (opens o (expression_depth index) d)
      (value_alone (indexed (part_shown index fs.1 (suc o) (inside o (expression_depth index) d)
      (Sign RightRound ∷ rest) refl)) b)
  part_shown (v.Call name xs) f o d rest e =
      let fs = and_parts (is_name name) (are_formed_arguments xs) f in
      call_shown name xs o (opens o (arguments_depth xs) d)
      (arguments_shown xs fs.1 (suc o) (inside o (arguments_depth xs) d) rest)
  part_shown (v.Random limit) f o d rest e =
      random (opens o (expression_depth limit) d)
      (value_shown limit f (suc o) (inside o (expression_depth limit) d) (Sign RightRound ∷ rest)
      (at_bracket rest).test.value)
  part_shown (v.Neg x) f o d rest e =
      let b = (at_bracket rest).test.value in
      g.bracketed (opens o (expression_depth x) d)
      (value_alone (negative (part_shown x f (suc o) (inside o (expression_depth x) d)
      (Sign RightRound ∷ rest) refl)) b)
  part_shown (v.Sum first xs) f o d rest e =
      let fs = and_parts (is_formed_expression first) (is_formed_sum xs) f in
      let gs = and_parts (has_terms xs) (are_formed_terms xs) fs.1 in
      let deep = inside o (max (expression_depth first) (terms_depth xs)) d in
      let b = (at_bracket rest).test.value in
      let end = Sign RightRound ∷ rest in
      g.bracketed (opens o (max (expression_depth first) (terms_depth xs)) d)
      (sum_value first xs end gs.0 b
      (part_shown first fs.0 (suc o) (left (suc o) (expression_depth first) (terms_depth xs) deep)
      (term_lexemes xs end) (at_terms xs end b).operand.bracket)
      (terms_shown xs gs.1 (suc o) (right (suc o) (expression_depth first)
      (terms_depth xs) deep) end b))
  part_shown (v.Product first xs) f o d rest e =
      let fs = and_parts (is_formed_expression first) (is_formed_product xs) f in
      let gs = and_parts (has_factors xs) (are_formed_factors xs) fs.1 in
      let deep = inside o (max (expression_depth first) (factors_depth xs)) d in
      let b = (at_bracket rest).test.value in
      let end = Sign RightRound ∷ rest in
      g.bracketed (opens o (max (expression_depth first) (factors_depth xs)) d)
      (product_value first xs end gs.0 b
      (part_shown first fs.0 (suc o) (left (suc o) (expression_depth first) (factors_depth xs) deep)
      (factor_lexemes xs end) (at_factors xs end b.product).bracket)
      (factors_shown xs gs.1 (suc o) (right (suc o) (expression_depth first)
      (factors_depth xs) deep) end b.product))

  pub arguments_shown : (xs : Arguments) → are_formed_arguments xs ≡ true → (o : ℕ)
      → o + arguments_depth xs ≤ 200 → (rest : List Lexeme)
      → g.Arguments within_limit o (argument_list xs) (argument_lexemes false xs rest) rest
  arguments_shown v.NoArguments f o d rest = no_arguments
  arguments_shown (v.MoreArguments x xs) f o d rest =
      let fs = and_parts (is_formed_expression x) (are_formed_arguments xs) f in
      some_arguments
      (value_shown x fs.0 o (left o (expression_depth x) (arguments_depth xs) d)
      (argument_lexemes true xs rest) (at_arguments xs rest))
      (further_shown xs fs.1 o (right o (expression_depth x) (arguments_depth xs) d) rest)

  -- well-formed arguments after the first are spelled as they are printed
  further_shown : (xs : Arguments) → are_formed_arguments xs ≡ true → (o : ℕ)
      → o + arguments_depth xs ≤ 200 → (rest : List Lexeme)
      → FurtherArguments within_limit o (argument_list xs) (argument_lexemes true xs rest)
      (Sign RightRound ∷ rest)
  further_shown v.NoArguments f o d rest = last_argument
  further_shown (v.MoreArguments x xs) f o d rest =
      let fs = and_parts (is_formed_expression x) (are_formed_arguments xs) f in
      one_more_argument
      (value_shown x fs.0 o (left o (expression_depth x) (arguments_depth xs) d)
      (argument_lexemes true xs rest) (at_arguments xs rest))
      (further_shown xs fs.1 o (right o (expression_depth x) (arguments_depth xs) d) rest)

  -- well-formed terms are spelled as they are printed, where an expression may end after them
  terms_shown : (xs : Terms) → are_formed_terms xs ≡ true → (o : ℕ) → o + terms_depth xs ≤ 200
      → (rest : List Lexeme) → ValueEnds rest
      → g.Terms within_limit o (term_list xs) (term_lexemes xs rest) rest
  terms_shown v.NoTerms f o d rest e = no_term e.term
  terms_shown (v.MoreTerms op x xs) f o d rest e =
      let fs = and_parts (is_formed_expression x) (are_formed_terms xs) f in
      let after = at_terms xs rest e in
      one_more_term (product_alone (part_alone x (term_lexemes xs rest) after.operand
      (part_shown x fs.0 o (left o (expression_depth x) (terms_depth xs) d)
      (term_lexemes xs rest) after.operand.bracket)) after.factor)
      (terms_shown xs fs.1 o (right o (expression_depth x) (terms_depth xs) d) rest e)

  -- well-formed factors are spelled as they are printed, where a product may end after them
  factors_shown : (xs : Factors) → are_formed_factors xs ≡ true → (o : ℕ)
      → o + factors_depth xs ≤ 200 → (rest : List Lexeme) → ProductEnds rest
      → g.Factors within_limit o (factor_list xs) (factor_lexemes xs rest) rest
  factors_shown v.NoFactors f o d rest e = no_factor e.factor
  factors_shown (v.MoreFactors op x xs) f o d rest e =
      let fs = and_parts (is_formed_expression x) (are_formed_factors xs) f in
      let after = at_factors xs rest e in
      one_more_factor (part_alone x (factor_lexemes xs rest) after
      (part_shown x fs.0 o (left o (expression_depth x) (factors_depth xs) d)
      (factor_lexemes xs rest) after.bracket))
      (factors_shown xs fs.1 o (right o (expression_depth x) (factors_depth xs) d) rest e)
