-- The grammar of conditions.
use Rattle.std.specs.Prelude.{ℕ, suc, Bool, true, ◌≡◌, List, [], ◌∷◌}
use Rattle.inform_tree.specs.declared.conditions.Relation.{Relation}
use Rattle.inform_tree.specs.Values.{Expression}
use Rattle.inform_tree.specs.Conditions as c
use Rattle.inform_lexemes.specs.declared.symbols.Symbol.TheVariants.{LeftRound, RightRound, Not}
use Rattle.inform_lexemes.specs.Lexemes.{Lexeme, Sign}
use Rattle.inform_grammar.specs.Lexemes.{No, is_relation, relation_sign, is_connective, connective}
use Rattle.inform_grammar.specs.Values.{Value}
use Rattle.inform_grammar.specs.Trees.{Guard, Join, Plain, Tested, condition, joined}

mutual
  -- test = ~~ "(" cond ")" | "(" cond ")" | value | value relation value. What is a value in
  -- brackets stays a value.
  pub data Test (room : ℕ → Bool) : ℕ → Guard → List Lexeme → List Lexeme → Type 0 where
    negated : {o : ℕ} {x : Guard} {ts rest : List Lexeme} → room o ≡ true
        → Condition room (suc o) x ts (Sign RightRound ∷ rest)
        → Test room o (Tested (c.Not (condition x))) (Sign Not ∷ Sign LeftRound ∷ ts) rest
    in_brackets : {o : ℕ} {x : c.Condition} {ts rest : List Lexeme} → room o ≡ true
        → Condition room (suc o) (Tested x) ts (Sign RightRound ∷ rest)
        → Test room o (Tested x) (Sign LeftRound ∷ ts) rest
    by_itself : {o : ℕ} {x : Expression} {ts rest : List Lexeme} → Value room o x ts rest
        → No is_relation rest → Test room o (Plain x) ts rest
    compared : {o : ℕ} {op : Relation} {x y : Expression} {ts mid rest : List Lexeme}
        → Value room o x ts (Sign (relation_sign op) ∷ mid) → Value room o y mid rest
        → Test room o (Tested (c.Compare op x y)) ts rest

  -- the further members of a chain, one at least, each after its `&&` or each after its `||`
  pub data Members (room : ℕ → Bool) : ℕ → Join → List c.Condition → List Lexeme → List Lexeme
      → Type 0 where
    last_member : {o : ℕ} {join : Join} {x : Guard} {ts rest : List Lexeme} → Test room o x ts rest
        → No is_connective rest
        → Members room o join (condition x ∷ []) (Sign (connective join) ∷ ts) rest
    one_more_member : {o : ℕ} {join : Join} {x : Guard} {xs : List c.Condition}
        {ts mid rest : List Lexeme}
        → Test room o x ts mid → Members room o join xs mid rest
        → Members room o join (condition x ∷ xs) (Sign (connective join) ∷ ts) rest

  -- cond = test { && test } | test { || test }
  pub data Condition (room : ℕ → Bool) : ℕ → Guard → List Lexeme → List Lexeme → Type 0 where
    a_test : {o : ℕ} {x : Guard} {ts rest : List Lexeme} → Test room o x ts rest
        → No is_connective rest → Condition room o x ts rest
    a_chain : {o : ℕ} {join : Join} {x : Guard} {xs : List c.Condition} {ts mid rest : List Lexeme}
        → Test room o x ts mid → Members room o join xs mid rest
        → Condition room o (Tested (joined join (condition x ∷ xs))) ts rest
