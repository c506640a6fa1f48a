-- Conditions that are spelled so are read so.
use Rattle.std.proofs.Common.{◌≡◌, ℕ, Bool, true, false, List, [], ◌∷◌, ◌++◌, refl, ap, ◌∙◌, append_assoc}
use Rattle.inform_tree.specs.declared.conditions.Relation.{Relation}
use Rattle.inform_tree.specs.declared.conditions.Relation.TheVariants.{Eq, Ne, Lt, Gt, Le, Ge}
use Rattle.inform_tree.specs.Values.{Expression}
use Rattle.inform_tree.specs.Conditions as c
use Rattle.inform_lexemes.specs.declared.symbols.Symbol.TheVariants.{LeftRound, And, Or, Not}
use Rattle.inform_lexemes.specs.Lexemes.{Lexeme, Sign, is_sign}
use Rattle.inform_grammar.specs.Rules as r
use Rattle.inform_grammar.specs.Lexemes.{No, is_relation, relation_sign, is_connective, connective, other_connective}
use Rattle.inform_grammar.specs.Plan.{Plan, chain, ◌>>=◌, one}
use Rattle.inform_grammar.specs.ValueRules.{factors_after, terms_after}
use Rattle.inform_grammar.specs.ConditionRules.{relation_after, value_after, tests_after}
use Rattle.inform_grammar.specs.Reading.{reads}
use Rattle.inform_grammar.specs.Values.{Primary, bracketed, Unary, operand, Value, a_value, a_product, begins_entry}
use Rattle.inform_grammar.specs.Conditions.{Test, negated, in_brackets, by_itself, compared, Members, last_member, one_more_member, Condition, a_test, a_chain}
use Rattle.inform_grammar.proofs.Opened.{opened}
use Rattle.inform_grammar.proofs.Steps.{starts, opened-here, next-no, maybe-no, chain-no, one-as-here, one-as, same-heads}
use Rattle.inform_grammar.proofs.ReadValues.{read-unary, read-factors, read-terms, read-value}
use Rattle.inform_grammar.specs.Trees.{AllOf, AnyOf, Guard, Join, Tested, condition, joined}

-- ---- a value where a test is expected

-- a bracket and `~~` begin tests in a way of their own
abbrev begins_value : Lexeme → Bool
begins_value (Sign LeftRound) = false
begins_value (Sign Not) = false
begins_value _ = true

-- what follows an operand where a test is expected
abbrev pub operand_after : Expression → Plan Guard
operand_after x = value_after x >>= relation_after

-- a value begins with an operand
pub value-as-unary : (room : ℕ → Bool) {X : Type 0} (ts : List Lexeme) (k : Expression → Plan X) (o : ℕ)
    → reads room ts (one r.Value k) o ≡ reads room ts (one r.Unary (λ x. value_after x >>= k)) o
unfolding opened
value-as-unary room ts k o =
    one-as room ts r.Value r.Product terms_after k o (λ t. refl)
    ∙ one-as room ts r.Product r.Unary factors_after (λ x. terms_after x >>= k) o (λ t. refl)

test-as-unary : (room : ℕ → Bool) {X : Type 0} (t : Lexeme) (ts : List Lexeme) → begins_value t ≡ true → (k : Guard → Plan X) (o : ℕ)
    → reads room (t ∷ ts) (one r.Test k) o ≡ reads room (t ∷ ts) (one r.Unary (λ x. operand_after x >>= k)) o
unfolding opened
test-as-unary room (Sign LeftRound) ts h k o = absurd (cc)
test-as-unary room (Sign Not) ts h k o = absurd (cc)
test-as-unary room t ts h k o =
    one-as-here room t ts r.Test r.Value relation_after k o refl ∙ value-as-unary room (t ∷ ts) (λ x. relation_after x >>= k) o

as-test : (room : ℕ → Bool) {X : Type 0} {o : ℕ} {x : Expression} {t : Lexeme} {ts rest : List Lexeme} → Unary room o x (t ∷ ts) rest
    → begins_value t ≡ true → (k : Guard → Plan X) → reads room (t ∷ ts) (one r.Test k) o ≡ reads room rest (operand_after x >>= k) o
as-test room {o = o} {t = t} {ts = ts} x h k = test-as-unary room t ts h k o ∙ read-unary room x (λ x. operand_after x >>= k)

mutual
  unfolding opened

  -- a value is read as a test up to where a relation may stand
  pub value-as-test : (room : ℕ → Bool) {X : Type 0} {o : ℕ} {x : Expression} {ts rest : List Lexeme} → Value room o x ts rest
      → (k : Guard → Plan X) → reads room ts (one r.Test k) o ≡ reads room rest (relation_after x >>= k) o
  value-as-test room (a_value (a_product x xs) ys) k =
      unary-as-test room x k ∙ read-factors room xs [] _ ∙ read-terms room ys [] _

  unary-as-test : (room : ℕ → Bool) {X : Type 0} {o : ℕ} {x : Expression} {ts rest : List Lexeme} → Unary room o x ts rest
      → (k : Guard → Plan X) → reads room ts (one r.Test k) o ≡ reads room rest (operand_after x >>= k) o
  unary-as-test room (operand h x) k = primary-as-test room h x k
  unary-as-test room d k = as-test room d refl k

  primary-as-test : (room : ℕ → Bool) {X : Type 0} {o : ℕ} {x : Expression} {ts rest : List Lexeme} → begins_entry ts ≡ false
      → Primary room o x ts rest → (k : Guard → Plan X) → reads room ts (one r.Test k) o ≡ reads room rest (operand_after x >>= k) o
  primary-as-test room h (bracketed {ts = ts} e x) k =
      opened-here e _ _ ∙ one-as room ts r.Condition r.Test tests_after _ _ (λ t. refl) ∙ value-as-test room x _
  primary-as-test room h d k = as-test room (operand h d) refl k

-- ---- relations and connectives

relation-read : (room : ℕ → Bool) {X : Type 0} (op : Relation) (x : Expression) (ts : List Lexeme) (k : Guard → Plan X) (o : ℕ)
    → reads room (Sign (relation_sign op) ∷ ts) (relation_after x >>= k) o ≡ reads room ts (one r.Value (λ y. k (Tested (c.Compare op x y)))) o
unfolding opened
relation-read room Eq x ts k o = refl
relation-read room Ne x ts k o = refl
relation-read room Lt x ts k o = refl
relation-read room Gt x ts k o = refl
relation-read room Le x ts k o = refl
relation-read room Ge x ts k o = refl

pub starts-member : (join : Join) (x : Lexeme) → starts (r.Member join) x ≡ is_sign (connective join) x
unfolding opened
starts-member AllOf (Sign And) = refl
starts-member AllOf _ = refl
starts-member AnyOf (Sign Or) = refl
starts-member AnyOf _ = refl

-- where no connective stands, neither of them does
pub neither : (join : Join) (ts : List Lexeme) → No is_connective ts → No (is_sign (connective join)) ts
neither join [] h = refl
neither AllOf (Sign And ∷ ts) h = absurd (cc)
neither AllOf (_ ∷ ts) h = refl
neither AnyOf (Sign Or ∷ ts) h = absurd (cc)
neither AnyOf (_ ∷ ts) h = refl

pub neither-other : (join : Join) (ts : List Lexeme) → No is_connective ts → No (is_sign (other_connective join)) ts
neither-other AllOf ts h = neither AnyOf ts h
neither-other AnyOf ts h = neither AllOf ts h

pub no-member : (join : Join) (ts : List Lexeme) → No is_connective ts → No (starts (r.Member join)) ts
no-member join ts h = same-heads (starts-member join) ts ∙ neither join ts h

-- the first two tests of a chain
chain-read : (room : ℕ → Bool) {X : Type 0} {o : ℕ} {join : Join} {xs : List c.Condition} {ts rest : List Lexeme} → Members room o join xs ts rest
    → (x : Guard) (k : Guard → Plan X)
    → reads room ts (tests_after x >>= k) o
    ≡ reads room ts (chain (r.Member join) (is_sign (other_connective join)) (condition x ∷ []) (λ xs. k (Tested (joined join xs)))) o
unfolding opened
chain-read room (last_member {join = AllOf} y h) x k = refl
chain-read room (last_member {join = AnyOf} y h) x k = refl
chain-read room (one_more_member {join = AllOf} y ys) x k = refl
chain-read room (one_more_member {join = AnyOf} y ys) x k = refl

-- ---- conditions

mutual
  unfolding opened

  pub read-test : (room : ℕ → Bool) {X : Type 0} {o : ℕ} {x : Guard} {ts rest : List Lexeme} → Test room o x ts rest
      → (k : Guard → Plan X) → reads room ts (one r.Test k) o ≡ reads room rest (k x) o
  read-test room (negated h x) k = opened-here h _ _ ∙ read-condition room x _
  read-test room (in_brackets h x) k = opened-here h _ _ ∙ read-condition room x _
  read-test room (by_itself {rest = rest} x h) k = value-as-test room x k ∙ next-no room rest is_relation h _ _ _
  read-test room (compared {op = op} x y) k = value-as-test room x k ∙ relation-read room op _ _ k _ ∙ read-value room y _

  -- members that are spelled so, each after its connective, are read so, after those read before
  read-members : (room : ℕ → Bool) {X : Type 0} {o : ℕ} {join : Join} {xs : List c.Condition} {ts rest : List Lexeme} → Members room o join xs ts rest
      → (front : List c.Condition) (k : List c.Condition → Plan X)
      → reads room ts (chain (r.Member join) (is_sign (other_connective join)) front k) o ≡ reads room rest (k (front ++ xs)) o
  read-members room (last_member {join = AllOf} {rest = rest} x h) front k =
      read-test room x _ ∙ chain-no room rest (r.Member AllOf) _ (no-member AllOf rest h) (neither-other AllOf rest h) _ k _
  read-members room (last_member {join = AnyOf} {rest = rest} x h) front k =
      read-test room x _ ∙ chain-no room rest (r.Member AnyOf) _ (no-member AnyOf rest h) (neither-other AnyOf rest h) _ k _
  read-members room {o = o} {rest = rest} (one_more_member {join = AllOf} {x = x} {xs = xs} d ds) front k =
      read-test room d _ ∙ read-members room ds _ k ∙ ap (λ xs. reads room rest (k xs) o) (append_assoc front (condition x ∷ []) xs)
  read-members room {o = o} {rest = rest} (one_more_member {join = AnyOf} {x = x} {xs = xs} d ds) front k =
      read-test room d _ ∙ read-members room ds _ k ∙ ap (λ xs. reads room rest (k xs) o) (append_assoc front (condition x ∷ []) xs)

  pub read-condition : (room : ℕ → Bool) {X : Type 0} {o : ℕ} {x : Guard} {ts rest : List Lexeme} → Condition room o x ts rest
      → (k : Guard → Plan X) → reads room ts (one r.Condition k) o ≡ reads room rest (k x) o
  read-condition room (a_test {ts = ts} {rest = rest} x h) k =
      one-as room ts r.Condition r.Test tests_after k _ (λ t. refl) ∙ read-test room x _
      ∙ maybe-no room rest (r.Member AllOf) (no-member AllOf rest h) _ _ _ ∙ maybe-no room rest (r.Member AnyOf) (no-member AnyOf rest h) _ _ _
  read-condition room (a_chain {join = join} {x = g} {ts = ts} {rest = rest} x xs) k =
      one-as room ts r.Condition r.Test tests_after k _ (λ t. refl) ∙ read-test room x _ ∙ chain-read room xs g k
      ∙ read-members room xs _ _
