-- A printed condition is spelled by the grammar.
use Rattle.std.proofs.Common.{◌≡◌, ℕ, suc, ◌+◌, ◌≤◌, true, false, List, [], ◌∷◌, subst}
use Rattle.std.specs.Prelude.{max}
use Rattle.std.proofs.lemmas.Bool.{and_parts}
use Rattle.inform_tree.specs.Conditions as c
use Rattle.inform_tree.specs.Conditions.{Condition, Conditions}
use Rattle.inform_tree.specs.Depths.{expression_depth, condition_depth, conditions_depth}
use Rattle.inform_tree.specs.Formed.{has_two, is_formed_expression, is_formed_condition, are_formed_conditions, is_formed_chain}
use Rattle.inform_lexemes.specs.declared.symbols.Symbol.TheVariants.{LeftRound, RightRound, Not}
use Rattle.inform_lexemes.specs.Lexemes.{Lexeme, Sign}
use Rattle.inform_grammar.specs.Lexemes.{No, is_connective, relation_sign, connective}
use Rattle.inform_grammar.specs.Reading.{within_limit}
use Rattle.inform_grammar.specs.Trees.{Guard, Tested, condition, Join, AllOf, AnyOf}
use Rattle.inform_grammar.specs.Conditions as g
use Rattle.inform_grammar.specs.Conditions.{Test, negated, in_brackets, by_itself, compared, Members, last_member, one_more_member, a_test, a_chain}
use Rattle.inform_printer.specs.ValueLexemes.{value_lexemes}
use Rattle.inform_printer.specs.ConditionLexemes.{condition_lexemes, member_lexemes}
use Rattle.inform_printer.proofs.Lists.{guard_of, guard_back, member_list, together, joined_back}
use Rattle.inform_printer.proofs.Depths.{opens, inside, beside, left, right}
use Rattle.inform_printer.proofs.Ends.{TestEnds, ConditionEnds, at_bracket, at_relation, at_connective}
use Rattle.inform_printer.proofs.ShownValues.{value_shown}

-- ---- members of a chain

-- the members after one, or none
data Further (o : ℕ) (join : Join) : List Condition → List Lexeme → List Lexeme → Type 0 where
  no_further : {rest : List Lexeme} → No is_connective rest → Further o join [] rest rest
  further : {xs : List Condition} {ts rest : List Lexeme} → Members within_limit o join xs ts rest
      → Further o join xs ts rest

-- one member, and those after it
with_further : {o : ℕ} {join : Join} {x : Guard} {xs : List Condition} {ts mid rest : List Lexeme}
    → Test within_limit o x ts mid → Further o join xs mid rest
    → Members within_limit o join (condition x ∷ xs) (Sign (connective join) ∷ ts) rest
with_further t (no_further h) = last_member t h
with_further t (further ds) = one_more_member t ds

at_member : (join : Join) (xs : Conditions) (rest : List Lexeme) → ConditionEnds rest
    → TestEnds (member_lexemes (connective join) true xs rest)
at_member join c.NoConditions rest e = e.test
at_member join (c.MoreConditions x xs) rest e = at_connective join _

-- a second member is there
members_of : {o : ℕ} {join : Join} {ts rest : List Lexeme} (x : Condition) (xs : Conditions)
    → has_two (c.MoreConditions x xs) ≡ true
    → Further o join (member_list xs) ts rest → Members within_limit o join (member_list xs) ts rest
members_of x c.NoConditions h d = absurd (cc)
members_of x (c.MoreConditions y ys) h (further ds) = ds

-- a negation, from its operand
negation_shown : {o : ℕ} {ts rest : List Lexeme} (x : Condition) → within_limit o ≡ true
    → g.Condition within_limit (suc o) (guard_of x) ts (Sign RightRound ∷ rest)
    → Test within_limit o (Tested (c.Not x)) (Sign Not ∷ Sign LeftRound ∷ ts) rest
negation_shown {o = o} {ts = ts} {rest = rest} x h d =
    subst (λ (y : Condition). Test within_limit o (Tested (c.Not y))
    (Sign Not ∷ Sign LeftRound ∷ ts) rest) (guard_back x) (negated h d)

-- ---- conditions

mutual
  -- a well-formed condition is spelled as it is printed, where a condition may end after it
  pub condition_shown : (x : Condition) → is_formed_condition x ≡ true → (o : ℕ)
      → o + condition_depth x ≤ 200 → (rest : List Lexeme) → ConditionEnds rest
      → g.Condition within_limit o (guard_of x) (condition_lexemes false x rest) rest
  condition_shown (c.Compare relation a b) f o d rest e =
      let fs = and_parts (is_formed_expression a) (is_formed_expression b) f in
      let deep = beside o (max (expression_depth a) (expression_depth b)) d in
      a_test (compared
      (value_shown a fs.0 o (left o (expression_depth a) (expression_depth b) deep)
      (Sign (relation_sign relation) ∷ value_lexemes false b rest) (at_relation relation _))
      (value_shown b fs.1 o (right o (expression_depth a)
      (expression_depth b) deep) rest e.test.value)) e.connective
  condition_shown (c.Nonzero x) f o d rest e =
      a_test (by_itself (value_shown x f o (beside o
      (expression_depth x) d) rest e.test.value) e.test.relation) e.connective
  condition_shown (c.All xs) f o d rest e =
      chain_shown AllOf xs f o (beside o (conditions_depth xs) d) rest e
  condition_shown (c.Any xs) f o d rest e =
      chain_shown AnyOf xs f o (beside o (conditions_depth xs) d) rest e
  condition_shown (c.Not x) f o d rest e =
      a_test (negation_shown x (opens o (condition_depth x) d)
      (condition_shown x f (suc o) (inside o (condition_depth x) d) (Sign RightRound ∷ rest)
      (at_bracket rest))) e.connective

  -- a member of a chain
  member_shown : (x : Condition) → is_formed_condition x ≡ true → (o : ℕ)
      → o + condition_depth x ≤ 200 → (rest : List Lexeme) → TestEnds rest
      → Test within_limit o (guard_of x) (condition_lexemes true x rest) rest
  member_shown (c.Compare relation a b) f o d rest e =
      let fs = and_parts (is_formed_expression a) (is_formed_expression b) f in
      let deep = beside o (max (expression_depth a) (expression_depth b)) d in
      compared
      (value_shown a fs.0 o (left o (expression_depth a) (expression_depth b) deep)
      (Sign (relation_sign relation) ∷ value_lexemes false b rest) (at_relation relation _))
      (value_shown b fs.1 o (right o (expression_depth a) (expression_depth b) deep) rest e.value)
  member_shown (c.Nonzero x) f o d rest e =
      by_itself (value_shown x f o (beside o (expression_depth x) d) rest e.value) e.relation
  member_shown (c.All xs) f o d rest e =
      in_brackets (opens o (conditions_depth xs) d)
      (chain_shown AllOf xs f (suc o) (inside o (conditions_depth xs) d) (Sign RightRound ∷ rest)
      (at_bracket rest))
  member_shown (c.Any xs) f o d rest e =
      in_brackets (opens o (conditions_depth xs) d)
      (chain_shown AnyOf xs f (suc o) (inside o (conditions_depth xs) d) (Sign RightRound ∷ rest)
      (at_bracket rest))
  member_shown (c.Not x) f o d rest e =
      negation_shown x (opens o (condition_depth x) d)
      (condition_shown x f (suc o) (inside o (condition_depth x) d) (Sign RightRound ∷ rest)
      (at_bracket rest))

  -- a well-formed chain of conditions is spelled as it is printed, with its connective between them
  chain_shown : (join : Join) (xs : Conditions) → is_formed_chain xs ≡ true → (o : ℕ)
      → o + conditions_depth xs ≤ 200 → (rest : List Lexeme) → ConditionEnds rest
      → g.Condition within_limit o (Tested (together join xs))
      (member_lexemes (connective join) false xs rest) rest
  chain_shown join c.NoConditions f o d rest e = absurd (cc)
  chain_shown join (c.MoreConditions x xs) f o d rest e =
      let fs = and_parts (has_two (c.MoreConditions x xs))
      (are_formed_conditions (c.MoreConditions x xs)) f in
      let gs = and_parts (is_formed_condition x) (are_formed_conditions xs) fs.1 in
      subst (λ (y : Condition). g.Condition within_limit o (Tested y)
      (member_lexemes (connective join) false (c.MoreConditions x xs) rest) rest)
      (joined_back join (c.MoreConditions x xs))
      (a_chain
      (member_shown x gs.0 o (left o (condition_depth x) (conditions_depth xs) d)
      (member_lexemes (connective join) true xs rest) (at_member join xs rest e))
      (members_of x xs fs.0 (members_shown join xs gs.1 o
      (right o (condition_depth x) (conditions_depth xs) d) rest e)))

  members_shown : (join : Join) (xs : Conditions) → are_formed_conditions xs ≡ true → (o : ℕ)
      → o + conditions_depth xs ≤ 200 → (rest : List Lexeme) → ConditionEnds rest
      → Further o join (member_list xs) (member_lexemes (connective join) true xs rest) rest
  members_shown join c.NoConditions f o d rest e = no_further e.connective
  members_shown join (c.MoreConditions x xs) f o d rest e =
      let fs = and_parts (is_formed_condition x) (are_formed_conditions xs) f in
      further (with_further
      (member_shown x fs.0 o (left o (condition_depth x) (conditions_depth xs) d)
      (member_lexemes (connective join) true xs rest) (at_member join xs rest e))
      (members_shown join xs fs.1 o (right o (condition_depth x) (conditions_depth xs) d) rest e))
